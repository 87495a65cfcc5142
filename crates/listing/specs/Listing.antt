-- Believed: the text that the listing program writes for an input, and what it leaves in its record bytes (docs/FORMAT.md, "The listing program").
use Rattle.std.specs.Prelude.{ℕ, length}
use mathlib.Core.List.{List, [], ◌∷◌, map, flatten}
use Rattle.x86.specs.declared.enums.Instruction.{Instruction}
use Rattle.x86.specs.Records.{Record, record_of}
use Rattle.codegen.specs.Generation.{Outcome, accepted, refused, lowered, records_after}
use Rattle.std.specs.Prelude.{Result, Ok, Err}
use Rattle.text.specs.declared.input.InputError.{InputError}
use Rattle.text.specs.Input.{split_of, tables_part, sheet_part}
use Rattle.text.specs.Text.{numbers_line, ok_line, refused_line, too_long_line}

-- a record's eight numbers (docs/FORMAT.md, "Records": form, operation, dst tag, dst value, src tag, src value, size, source size)
abbrev pub numbers_of : Record → List ℕ
numbers_of r = r.form ∷ r.operation ∷ r.dst_tag ∷ r.dst ∷ r.src_tag ∷ r.src ∷ r.size ∷ r.src_size ∷ []

-- the line of a record ("a line of eight numbers for each")
unfoldable pub record_line : Instruction → List ℕ
record_line i = numbers_line (numbers_of (record_of i))

-- the lines for what the lowering answers ("`ok` and the number of records, then a line .. for each, or `refused`, number and place")
abbrev pub answer_lines : Outcome (List Instruction) → List (List ℕ)
answer_lines (accepted is) = ok_line (length is) ∷ map record_line is
answer_lines (refused n place) = refused_line n place ∷ []

-- what the lowering answers for an input whose first cell is n ("There is room for 65,536 bytes of records")
abbrev pub answer_to : List ℕ → ℕ → Outcome (List Instruction)
answer_to s n = lowered (tables_part s n) (sheet_part s n) 65536

-- the lines by the parts of an input ("A first cell that is missing, negative or above the number of whole cells behind it gives `refused 1 0`")
abbrev pub parts_lines : Result ℕ InputError → List ℕ → List (List ℕ)
parts_lines (Err InputError.TooLong) s = too_long_line ∷ []
parts_lines (Err InputError.NoTables) s = refused_line 1 0 ∷ []
parts_lines (Ok n) s = answer_lines (answer_to s n)

-- the lines for an input
unfoldable pub listing_lines : List ℕ → List (List ℕ)
listing_lines s = parts_lines (split_of s) s

-- the whole text for an input: its lines one behind the other
unfoldable pub listing_text : List ℕ → List ℕ
listing_text s = flatten (listing_lines s)

-- the record bytes by the parts of an input; an input without parts is not lowered
abbrev pub parts_records : Result ℕ InputError → List ℕ → List ℕ → List ℕ
parts_records (Err InputError.TooLong) s old = old
parts_records (Err InputError.NoTables) s old = old
parts_records (Ok n) s old = records_after (answer_to s n) old

-- the record bytes after the listing of an input
unfoldable pub listing_records : List ℕ → List ℕ → List ℕ
listing_records s old = parts_records (split_of s) s old
