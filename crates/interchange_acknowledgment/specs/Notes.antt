-- The note codes by their numbers.
use Rattle.std.specs.Prelude.{ℕ}
use Rattle.interchange_acknowledgment.specs.declared.NoteCode.{NoteCode}
use Rattle.interchange_acknowledgment.specs.declared.NoteCode.TheVariants.{Accepted, OtherControl, OtherCount, BadStructure, EarlyEnd}

abbrev pub note_number : NoteCode → ℕ
note_number Accepted = 0
note_number OtherControl = 1
note_number OtherCount = 21
note_number BadStructure = 22
note_number EarlyEnd = 23
