use Rattle.std.proofs.Common.{◌∙◌, sym, ap, nat_eq}
use Rattle.std.specs.Int.{w64}
use Rattle.std.proofs.lemmas.Nat.Bits.{bit_at_set_same, bit_at_set_other, bit_at_clear_same, bit_at_clear_other}
use Rattle.gr_columns.proofs.Words.{set_bits}
use Rattle.gr_columns.proofs.truths.with_bit.Goals as goal

pub returns-then-value : goal.returns-then-value
returns-then-value c = set_bits c.args.word _ c.args.place c.args.value c.requires (ap (λ bit. nat_eq bit 1) (bit_at_set_same w64 c.args.word c.args.place c.requires) ∙ sym c.if-value.true) (λ i within differ. bit_at_set_other w64 c.args.word c.args.place c.requires i differ)

pub returns-else-value : goal.returns-else-value
returns-else-value c = set_bits c.args.word _ c.args.place c.args.value c.requires (ap (λ bit. nat_eq bit 1) (bit_at_clear_same w64 c.args.word c.args.place c.requires) ∙ sym c.if-value.false) (λ i within differ. bit_at_clear_other w64 c.args.word c.args.place c.requires i within differ)
