-- What finds or adds a key.
use Rattle.std.specs.Prelude.{ℕ, ◌≡◌, Some, None, Ok, Err, Option, Result, List}
use Rattle.std.specs.FinMap.{get, insert}
use Rattle.gr_base.specs.Keys.{KeyMap}
use Rattle.gr_base.specs.declared.numbers.RecordId.{RecordId}

-- the id of the key if it is there; otherwise the key is added with this id; for want of memory nothing changes
abbrev pub FindsOrAdds : {E : Type 0} → KeyMap → List ℕ → RecordId → KeyMap → Result (Option RecordId) E → Type 0
FindsOrAdds old key id new (Ok (Some there)) = (get old key ≡ Some there) × (new ≡ old)
FindsOrAdds old key id new (Ok None) = (get old key ≡ None) × (new ≡ insert old key id)
FindsOrAdds old key id new (Err _) = new ≡ old
