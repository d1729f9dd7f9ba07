use Rattle.std.proofs.Common.{refl}
use Rattle.gr_values.proofs.Lengths.{IsListOf-read}
use Rattle.gr_values.proofs.Listing.{IsListOf-text, IsListOf-whole, is_some-of}
use Rattle.gr_values.proofs.read_list.read_plain_list.Goals as goal

pub returns-in_ok-read_ints-in-Some-default-clause-fits : goal.returns-in_ok-read_ints-in-Some-default-clause-fits
returns-in_ok-read_ints-in-Some-default-clause-fits c =
    let read = IsListOf-read _ _ c.args.values.items _ (c.in_ok-read_ints-in-Some-default.ensures.exact.found _ refl) c.requires.few c.in_ok-read_ints-in-Some-default.ensures.each in
    (c.requires.list, is_some-of _ _ c.in-Some-default.ensures.exact, IsListOf-whole _ _ _ c.in-Some-default.ensures.exact read)

pub returns-in_ok-read_texts-in-None-Some-clause-fits : goal.returns-in_ok-read_texts-in-None-Some-clause-fits
returns-in_ok-read_texts-in-None-Some-clause-fits c =
    let read = IsListOf-read _ _ c.args.values.items _ (c.in_ok-read_texts-in-None-Some.ensures.exact.found _ refl) c.requires.few c.in_ok-read_texts-in-None-Some.ensures.each in
    (c.requires.list, is_some-of _ _ c.in-None-Some.ensures', IsListOf-text _ _ _ c.in-None-Some.ensures' read)
