-- Files in memory, by name.
use Rattle.std.specs.Prelude.{ℕ, ◌≡◌, ◌≢◌, ◌+◌, ◌⊎◌, ◌==◌, ⊤, if◌then◌else◌, Option, Some, None, Result, Ok, Err, List, []}
use Rattle.std.specs.List.{find}
use Rattle.std.specs.Option.{option_map}
use Rattle.std.specs.Cmp.Lexicographic.{pointwise}
use Rattle.gr_outside.specs.Memory.{CanReach, Reading, is_failing, next_call, reading_from}
use Rattle.gr_outside.specs.Outside.{FilesTold}
use Rattle.gr_outside.specs.declared.failed.OpenFault.{OpenFault}
use Rattle.gr_outside.specs.declared.failed.OpenFault.TheVariants.{Failed as Refused, NoMemory}
use Rattle.gr_outside.specs.declared.named_file.NamedFile.{NamedFile}

-- files in memory: the files, the opens that fail, the next open, and the faults so far
pub record Filing : Type 0 where
  pub files : List NamedFile
  pub failing : List ℕ
  pub call : ℕ
  pub faults : ℕ

-- files in memory before the first open
abbrev pub filing_of : List NamedFile → List ℕ → Filing
filing_of files failing = record { files = files; failing = failing; call = 0; faults = 0 }

-- the first file of a name
abbrev pub file_named : List NamedFile → List ℕ → Option NamedFile
file_named files name = find (λ file. pointwise ◌==◌ file.name name) files

-- a source of a file, from its first byte
abbrev pub source_of : NamedFile → Reading
source_of file = reading_from file.bytes file.failing file.largest

-- what the file that was found can reach from its first byte; nothing is opened where none was found
abbrev pub FileReaches : Option NamedFile → ℕ → ℕ → Type 0
FileReaches None bytes count = Unit {0}
FileReaches (Some file) bytes count = CanReach (source_of file) bytes count

-- what files in memory tell: an open of a name can fail where no file has it, or where opens fail at all
abbrev pub told_by : Filing → FilesTold
told_by filing = record {
  named = λ name. record {
    bytes = option_map (λ file. file.bytes) (file_named filing.files name);
    reaches = FileReaches (file_named filing.files name);
    can_fail = (file_named filing.files name ≡ None) ⊎ (filing.failing ≢ []);
  };
  faults = filing.faults;
}

-- the file that an open finds: none has the name, or its call is to fail
abbrev pub found_by : Filing → List ℕ → Option NamedFile
found_by filing name = if is_failing filing.failing filing.call then None else file_named filing.files name

-- an open is refused exactly where it finds no file, and otherwise gives a source of the file, or no memory is found for it
abbrev pub Opens : Option NamedFile → Result Reading OpenFault → Type 0
Opens None (Ok source) = ⊥
Opens None (Err Refused) = ⊤
Opens None (Err NoMemory) = ⊥
Opens (Some file) (Ok source) = source ≡ source_of file
Opens (Some file) (Err Refused) = ⊥
Opens (Some file) (Err NoMemory) = ⊤

-- files after an open of what it found
abbrev pub after_open : Filing → Option NamedFile → Filing
after_open filing None = record filing { call = next_call filing.call; faults = filing.faults + 1 }
after_open filing (Some file) = record filing { call = next_call filing.call }
