-- How a typed statement may complete, by the rules on which statements can complete normally.
use Rattle.std.specs.Prelude.{◌≡◌, ℕ, true, Option, Some, is_some, slice_get}
use Rattle.access_blocks.specs.declared.body.Statement.{Statement}
use Rattle.access_blocks.specs.Expressions.{Calls}
use Rattle.access_blocks.specs.Statements.{Machine, Completion, Normal, Breaks, Continues, Returns, Halts, part_of, meaning}
use Rattle.body_code.specs.Completing.{Leaving, leaving_of}
use Rattle.body_code.specs.Checking.{Surroundings, Standing, Around, checked}
use Rattle.code_meaning.specs.Running.{is_plain}

-- A statement that completes normally is one that can, and so is one that a `break` leaves.
abbrev pub IsForeseen : Leaving → Completion → Type 0
IsForeseen l Normal = l.completes ≡ true
IsForeseen l Breaks = l.breaks ≡ true
IsForeseen l Continues = Unit {0}
IsForeseen l (Returns v) = Unit {0}
IsForeseen l (Halts h) = Unit {0}

-- The part that a block works on is there.
pub record HasPart (site : Option ℕ) (m : Machine) : Type 0 where
  pub is_there : (field : ℕ) → site ≡ Some field → is_some (part_of (slice_get m.fields field) m.instance) ≡ true

-- of statements in which no block begins, and that stand in none or in one whose part is there
abbrev pub CompletionsAreForeseen : Type 0
CompletionsAreForeseen =
    (around : Surroundings) (calls : Calls) (x : Statement) → is_plain x ≡ true → (loop : Around) (st end : Standing) → checked around x loop st ≡ Some end
    → (site : Option ℕ) → ((field : ℕ) → st.field ≡ Some field → site ≡ Some field) → (m : Machine) → HasPart site m → IsForeseen (leaving_of x) (meaning calls x m).completion
