-- What the parts of reading an entry make.
use Rattle.std.specs.Prelude.{ℕ, List, Some}
use Rattle.gr_base.specs.declared.numbers.TableNo.{TableNo}
use Rattle.gr_db.specs.declared.want.Want.{Want}
use Rattle.gr_values.specs.declared.value.Key.{Key}

-- a wanted record of this key
abbrev pub keyed_want : TableNo → Key → Want
keyed_want table key = record { table = table; key = Some key }

-- a wanted record of this token
abbrev pub token_want : TableNo → List ℕ → Want
token_want table token = record { table = table; key = Some (Key.Text token) }
