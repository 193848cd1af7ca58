-- The commands that the bytes of a job say. Assumes nothing.
use Rattle.std.specs.Prelude.{ℕ, zero, suc, ◌+◌, ◌-◌, ◌*◌, ◌/◌, ◌%◌, cond, List, [], ◌∷◌, ◌++◌, length, Some, None, Option, option_and_then, ◌==◌}
use Rattle.std.specs.Borrow.{Bor}
use Rattle.periodicity.specs.declared.Fragment.{Fragment}
use Rattle.job.specs.declared.command.Command.{Command}
use Rattle.job.specs.declared.command.Command.TheVariants.{Glyph, Take, Join, Cut, Places}

-- what stands at the front of some bytes, with the bytes after it; absent when they do not begin with one
abbrev pub Front : Type 0 → Type 0
Front A = Option (A × List ℕ)

-- what a reader of the front answered, seen with the bytes that its reference points to
abbrev pub seen : {A : Type 0} → Option (A × Bor (List ℕ)) → Front A
seen None = None
seen (Some read) = Some (read.0, read.1.now)

-- something at the front, and then what its value and the bytes after it give
infixl 10 ◌>>=◌
abbrev pub ◌>>=◌ : {A B : Type 0} → Front A → (A × List ℕ → Front B) → Front B
front >>= next = option_and_then next front

-- an operand: two bytes, high byte first
abbrev pub operand_at : List ℕ → Front ℕ
operand_at [] = None
operand_at (high ∷ []) = None
operand_at (high ∷ low ∷ rest) = Some (256 * high + low, rest)

-- a fragment: its start, then its length
abbrev pub fragment_at : List ℕ → Front Fragment
fragment_at bytes = do
  start ← operand_at bytes
  size ← operand_at start.1
  Some (record { start = start.0; length = size.0 }, size.1)

-- the operands of each command, after its letter
abbrev pub glyph_at : List ℕ → Front Command
glyph_at bytes = do
  number ← operand_at bytes
  Some (Glyph number.0, number.1)

abbrev pub take_at : List ℕ → Front Command
take_at bytes = Some (Take, bytes)

abbrev pub join_at : List ℕ → Front Command
join_at bytes = do
  left ← operand_at bytes
  right ← operand_at left.1
  Some (Join left.0 right.0, right.1)

abbrev pub cut_at : List ℕ → Front Command
cut_at bytes = do
  number ← operand_at bytes
  part ← fragment_at number.1
  Some (Cut number.0 part.0, part.1)

abbrev pub places_at : List ℕ → Front Command
places_at bytes = do
  number ← operand_at bytes
  pattern ← fragment_at number.1
  field ← fragment_at pattern.1
  Some (Places number.0 pattern.0 field.0, field.1)

-- the command of a letter, C, T, J, K or F, with its operands; absent when the letter is unknown
abbrev pub said_by : ℕ → List ℕ → Front Command
said_by letter bytes =
    cond (letter == 67) (glyph_at bytes)
    (cond (letter == 84) (take_at bytes)
    (cond (letter == 74) (join_at bytes)
    (cond (letter == 75) (cut_at bytes)
    (cond (letter == 70) (places_at bytes) None))))

-- the command at the front of some bytes: its letter, then its operands
unfoldable pub command_at : List ℕ → Front Command
command_at [] = None
command_at (letter ∷ rest) = said_by letter rest

-- how a command is spelled: its letter, then two bytes for each operand, high byte first
abbrev pub number_spelled : ℕ → List ℕ
number_spelled n = n / 256 ∷ (n % 256 ∷ [])

abbrev pub fragment_spelled : Fragment → List ℕ
fragment_spelled part = number_spelled part.start ++ number_spelled part.length

abbrev pub spelling : Command → List ℕ
spelling (Glyph number) = 67 ∷ number_spelled number
spelling Take = 84 ∷ []
spelling (Join left right) = 74 ∷ (number_spelled left ++ number_spelled right)
spelling (Cut number part) = 75 ∷ (number_spelled number ++ fragment_spelled part)
spelling (Places number pattern field) = 70 ∷ (number_spelled number ++ (fragment_spelled pattern ++ fragment_spelled field))

-- what stands in a job: a command with the place of its letter; or a place where none can be read, after
-- which nothing is looked at
pub data Entry : Type 0 where
  reads : ℕ → Command → Entry
  unreadable : ℕ → Entry

-- the entry at a place, by what stands there, before those that come after it
abbrev pub entry_before : ℕ → Front Command → (List ℕ → List Entry) → List Entry
entry_before place None after = unreadable place ∷ []
entry_before place (Some read) after = reads place read.0 ∷ after read.1

-- the entries of the bytes that are left of a job of this size, up to a limit
abbrev pub entries_within : ℕ → ℕ → List ℕ → List Entry
entries_within zero size rest = []
entries_within (suc limit) size [] = []
entries_within (suc limit) size (b ∷ bs) = entry_before (size - length (b ∷ bs)) (command_at (b ∷ bs)) (entries_within limit size)

-- the entries of a job, of which there are no more than bytes, since each command has its letter
unfoldable pub entries : List ℕ → List Entry
entries job = entries_within (length job) (length job) job
