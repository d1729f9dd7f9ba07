-- Faults: their codes, their names, and the text that a reply shows.
use Rattle.std.specs.Prelude.{ℕ, List, [], ◌∷◌, ◌++◌, Option, Some, None, codes}
use Rattle.std.specs.Fmt.{decimal}
use Rattle.std.specs.Str.{byte}
use Rattle.gr_base.specs.declared.fault.Fault.{Fault}
use Rattle.gr_base.specs.declared.fault.FaultKind.{FaultKind}
use Rattle.gr_base.specs.declared.fault.FaultKind.TheVariants.{LineTooLong, NotText, BadLine, UnknownCommand, UnknownArgument, RepeatedArgument, MissingArgument, UnfinishedLoad, BadName, NameTaken, NoSuchTable, NoSuchColumn, BadFlags, BadType, BadSource, BadValue, OutOfRange, TooLong, FloatRefused, BadJson, BadRow, MissingKey, EmptyKey, KeyGiven, LexiconReadOnly, NoSuchRecord, BadQuery, BadScript, TooDeep, BadNumber, TypeMismatch, NoMatchColumn, BadSortKey, TableFull, JournalFull}

-- the number that a reply shows
abbrev pub code_of : FaultKind → ℕ
code_of LineTooLong = 1
code_of NotText = 2
code_of BadLine = 3
code_of UnknownCommand = 4
code_of UnknownArgument = 5
code_of RepeatedArgument = 6
code_of MissingArgument = 7
code_of UnfinishedLoad = 8
code_of BadName = 9
code_of NameTaken = 10
code_of NoSuchTable = 11
code_of NoSuchColumn = 12
code_of BadFlags = 13
code_of BadType = 14
code_of BadSource = 15
code_of BadValue = 16
code_of OutOfRange = 17
code_of TooLong = 18
code_of FloatRefused = 19
code_of BadJson = 20
code_of BadRow = 21
code_of MissingKey = 22
code_of EmptyKey = 23
code_of KeyGiven = 24
code_of LexiconReadOnly = 25
code_of NoSuchRecord = 26
code_of BadQuery = 27
code_of BadScript = 28
code_of TooDeep = 29
code_of BadNumber = 30
code_of TypeMismatch = 31
code_of NoMatchColumn = 32
code_of BadSortKey = 33
code_of TableFull = 34
code_of JournalFull = 35

-- the name that a reply shows
abbrev pub name_of : FaultKind → List ℕ
name_of LineTooLong = codes "LineTooLong"
name_of NotText = codes "NotText"
name_of BadLine = codes "BadLine"
name_of UnknownCommand = codes "UnknownCommand"
name_of UnknownArgument = codes "UnknownArgument"
name_of RepeatedArgument = codes "RepeatedArgument"
name_of MissingArgument = codes "MissingArgument"
name_of UnfinishedLoad = codes "UnfinishedLoad"
name_of BadName = codes "BadName"
name_of NameTaken = codes "NameTaken"
name_of NoSuchTable = codes "NoSuchTable"
name_of NoSuchColumn = codes "NoSuchColumn"
name_of BadFlags = codes "BadFlags"
name_of BadType = codes "BadType"
name_of BadSource = codes "BadSource"
name_of BadValue = codes "BadValue"
name_of OutOfRange = codes "OutOfRange"
name_of TooLong = codes "TooLong"
name_of FloatRefused = codes "FloatRefused"
name_of BadJson = codes "BadJson"
name_of BadRow = codes "BadRow"
name_of MissingKey = codes "MissingKey"
name_of EmptyKey = codes "EmptyKey"
name_of KeyGiven = codes "KeyGiven"
name_of LexiconReadOnly = codes "LexiconReadOnly"
name_of NoSuchRecord = codes "NoSuchRecord"
name_of BadQuery = codes "BadQuery"
name_of BadScript = codes "BadScript"
name_of TooDeep = codes "TooDeep"
name_of BadNumber = codes "BadNumber"
name_of TypeMismatch = codes "TypeMismatch"
name_of NoMatchColumn = codes "NoMatchColumn"
name_of BadSortKey = codes "BadSortKey"
name_of TableFull = codes "TableFull"
name_of JournalFull = codes "JournalFull"

-- a fault that is told by a name alone
abbrev pub fault_named : FaultKind → List ℕ → Fault
fault_named kind name = record { kind = kind; row = None; at = None; name = name }

-- a number under its label, where there is one
abbrev pub labelled : List ℕ → Option ℕ → List ℕ
labelled label None = []
labelled label (Some n) = label ++ decimal n

-- a space and the name, where it is not empty
abbrev pub spaced : List ℕ → List ℕ
spaced [] = []
spaced (c ∷ cs) = byte " " ∷ c ∷ cs

-- the fault's name, then its row, its place and its own name, each where it has one
abbrev pub fault_text : Fault → List ℕ
fault_text f = name_of f.kind ++ labelled (codes " row ") f.row ++ labelled (codes " at ") f.at ++ spaced f.name
