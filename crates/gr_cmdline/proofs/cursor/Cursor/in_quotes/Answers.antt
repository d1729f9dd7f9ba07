use Rattle.std.proofs.Common.{◌∙◌, ap, arith, encode_utf8, option_map}
use Rattle.gr_cmdline.specs.Words.{in_quotes, rest_from, with_text}
use Rattle.gr_cmdline.proofs.Spelling.{with_text-nil, with_text-text}
use Rattle.gr_cmdline.proofs.cursor.Cursor.in_quotes.Goals as goal

pub runs-init : goal.runs-init
runs-init c = record { read = rw c.new-text.ensures (with_text-nil (rest_from (in_quotes c.args.quote) c.args.self.now)); order = omega arith }

pub runs-preserved : goal.runs-preserved
runs-preserved c =
    record {
      read = rw c.in_ok-text-in-Char.ensures
          (c.runs.invariant.read ∙ c.in_ok-text.ensures.text ∙ ap (option_map (with_text c.in_ok-text.text)) c.in-Char.ensures.next.0
          ∙ with_text-text c.in_ok-text.text (encode_utf8 c.in-Char.c) (rest_from (in_quotes c.args.quote) c.next_in_quotes.new.self));
      order = omega (arith, c.in-Char.ensures.order);
    }
