-- The code of a sum pushes the sum's value.
use Rattle.std.proofs.Common.{◌≡◌, refl, ℕ, pos, List, [], ◌∷◌, ◌++◌, unwrap_or, sym, ap, ◌∙◌, All, append_assoc}
use Rattle.std.proofs.lemmas.List.Elements.{All-head, All-tail}
use Rattle.sdg_base.specs.declared.val.Val.{Val}
use Rattle.sdg_base.specs.declared.val.Val.TheVariants as val
use Rattle.sdg_base.specs.declared.val.Num.{Num}
use Rattle.sdg_base.specs.declared.val.Num.TheVariants as num
use Rattle.sdg_base.specs.declared.operator.BinOp.TheVariants as bin
use Rattle.sdg_base.specs.Operators.{sum_of}
use Rattle.early_forms.specs.declared.straight.Atom.{Atom}
use Rattle.early_forms.specs.declared.straight.Atom.TheVariants.{Literal, Variable}
use Rattle.early_forms.specs.declared.straight.Sum.{Sum}
use Rattle.early_forms.specs.Names.{AtomIsKnown, SumIsKnown}
use Rattle.early_tables.specs.States.{State}
use Rattle.early_source.specs.Variables.{Variables, named}
use Rattle.early_task_code.specs.declared.graph.Instr.{Instr}
use Rattle.early_task_code.specs.declared.graph.Instr.TheVariants as instr
use Rattle.early_task_code.specs.Machine.{Setting, run, pushed}
use Rattle.early_cutter.specs.Points.{number_in}
use Rattle.early_cutter.specs.Sums.{type_of, promoted, atom_code, cast_code, plus_code, others_code, long_code}
use Rattle.early_plain.specs.Results.{atom_value}
use Rattle.early_cutter.specs.Values.{sum_from, whole_of, long_value, HasType}
use Rattle.early_cutter.specs.Agrees.{Matches}

-- code that leads to the rest with one value more on the stack
abbrev pub Pushes : Setting → List Val → List Instr → Val → Type 0
Pushes s env code v = (rest : List Instr) (stack : List Val) (turns : ℕ) (state : State) → run s (code ++ rest) stack env turns state ≡ run s rest (v ∷ stack) env turns state

pub record AtomRuns (s : Setting) (scope : List (List ℕ)) (env : List Val) (variables : Variables) (atom : Atom) : Type 0 where
  pub typed : HasType (type_of atom) (atom_value variables atom)
  pub pushes : Pushes s env (atom_code scope atom ∷ []) (atom_value variables atom)

pub atom_runs : (s : Setting) (scope : List (List ℕ)) (env : List Val) (variables : Variables) (atom : Atom) → Matches scope variables env → AtomIsKnown scope atom
    → AtomRuns s scope env variables atom
atom_runs s scope env variables (Literal n) matches known = record { typed = (pos n, refl); pushes = λ rest stack turns state. refl }
atom_runs s scope env variables (Variable name) matches known =
    let is = matches.longs name known in
    let at : unwrap_or (named name variables) val.Unit ≡ val.Long is.0 = ap (λ o. unwrap_or o val.Unit) is.1 in
    record {
      typed = (is.0, at);
      pushes = λ rest stack turns state.
          ap (λ o. pushed (run s rest) o stack env turns state) (matches.at name known ∙ is.1)
          ∙ ap (λ v. run s rest (v ∷ stack) env turns state) (sym at);
    }

-- the sum of two values, by their types
pub sum_typed : (t u : Num) (a b : Val) → HasType t a → HasType u b → HasType (promoted t u) (sum_of a b)
sum_typed num.Int num.Int a b (n, h) (m, k) = (whole_of (sum_of a b), rw (h, k) refl)
sum_typed num.Int num.Long a b (n, h) (m, k) = (whole_of (sum_of a b), rw (h, k) refl)
sum_typed num.Long num.Int a b (n, h) (m, k) = (whole_of (sum_of a b), rw (h, k) refl)
sum_typed num.Long num.Long a b (n, h) (m, k) = (whole_of (sum_of a b), rw (h, k) refl)

-- an atom added to a value on the stack
addend_runs : (s : Setting) (scope : List (List ℕ)) (env : List Val) (variables : Variables) (t : Num) (a : Val) (atom : Atom) → HasType t a → AtomRuns s scope env variables atom
    → (rest : List Instr) (stack : List Val) (turns : ℕ) (state : State)
    → run s (plus_code scope t atom ++ rest) (a ∷ stack) env turns state ≡ run s rest (sum_of a (atom_value variables atom) ∷ stack) env turns state
addend_runs s scope env variables num.Int a (Literal m) (n, h) atom rest stack turns state = rw h refl
addend_runs s scope env variables num.Long a (Literal m) (n, h) atom rest stack turns state = rw h refl
addend_runs s scope env variables num.Int a (Variable name) (n, h) atom rest stack turns state =
    let w = atom_value variables (Variable name) in
    let k = atom.typed.0 in
    let tail : List Instr = instr.Bin bin.Add num.Long ∷ rest in
    ap (λ v. run s (instr.Cast num.Long ∷ instr.Load (number_in scope name) ∷ tail) (v ∷ stack) env turns state) h
    ∙ atom.pushes tail (val.Long n ∷ stack) turns state
    ∙ ap (λ v. run s tail (v ∷ val.Long n ∷ stack) env turns state) atom.typed.1
    ∙ ap (λ v. run s rest (v ∷ stack) env turns state) (ap (sum_of (val.Int n)) (sym atom.typed.1) ∙ ap (λ v. sum_of v w) (sym h))
addend_runs s scope env variables num.Long a (Variable name) (n, h) atom rest stack turns state =
    let w = atom_value variables (Variable name) in
    let k = atom.typed.0 in
    let tail : List Instr = instr.Bin bin.Add num.Long ∷ rest in
    atom.pushes tail (a ∷ stack) turns state
    ∙ ap (λ v. run s tail (w ∷ v ∷ stack) env turns state) h
    ∙ ap (λ v. run s tail (v ∷ val.Long n ∷ stack) env turns state) atom.typed.1
    ∙ ap (λ v. run s rest (v ∷ stack) env turns state) (ap (sum_of (val.Long n)) (sym atom.typed.1) ∙ ap (λ v. sum_of v w) (sym h))

-- the type of a value once these atoms are added
abbrev pub type_from : Num → List Atom → Num
type_from type [] = type
type_from type (atom ∷ atoms) = type_from (promoted type (type_of atom)) atoms

cast_runs : (s : Setting) (env : List Val) (type : Num) (v : Val) → HasType type v
    → (rest : List Instr) (stack : List Val) (turns : ℕ) (state : State) → run s (cast_code type num.Long ++ rest) (v ∷ stack) env turns state ≡ run s rest (val.Long (whole_of v) ∷ stack) env turns state
cast_runs s env num.Int v (n, h) rest stack turns state = rw h refl
cast_runs s env num.Long v (n, h) rest stack turns state = rw h refl

-- the other atoms, and the cast to a long
others_run : (s : Setting) (scope : List (List ℕ)) (env : List Val) (variables : Variables) (type : Num) (so_far : Val) (atoms : List Atom)
    → Matches scope variables env → HasType type so_far → All (AtomIsKnown scope) atoms
    → (rest : List Instr) (stack : List Val) (turns : ℕ) (state : State)
    → run s (others_code scope type atoms ++ rest) (so_far ∷ stack) env turns state ≡ run s rest (val.Long (whole_of (sum_from variables so_far atoms)) ∷ stack) env turns state
others_run s scope env variables type so_far [] matches typed known rest stack turns state = cast_runs s env type so_far typed rest stack turns state
others_run s scope env variables type so_far (atom ∷ atoms) matches typed known rest stack turns state =
    let here = atom_runs s scope env variables atom matches (All-head (AtomIsKnown scope) atom atoms known) in
    let w = atom_value variables atom in
    let both = promoted type (type_of atom) in
    ap (λ code. run s code (so_far ∷ stack) env turns state) (append_assoc (plus_code scope type atom) (others_code scope both atoms) rest)
    ∙ addend_runs s scope env variables type so_far atom typed here (others_code scope both atoms ++ rest) stack turns state
    ∙ others_run s scope env variables both (sum_of so_far w) atoms matches (sum_typed type (type_of atom) so_far w typed here.typed) (All-tail (AtomIsKnown scope) atom atoms known) rest stack turns state

-- where a long is wanted, the sum's value as a long
pub long_runs : (s : Setting) (scope : List (List ℕ)) (env : List Val) (variables : Variables) (v : Sum) → Matches scope variables env → SumIsKnown scope v
    → Pushes s env (long_code scope v) (val.Long (long_value variables v))
long_runs s scope env variables v matches known rest stack turns state =
    let first = atom_runs s scope env variables v.first matches (All-head (AtomIsKnown scope) v.first v.others known) in
    first.pushes (others_code scope (type_of v.first) v.others ++ rest) stack turns state
    ∙ others_run s scope env variables (type_of v.first) (atom_value variables v.first) v.others matches first.typed (All-tail (AtomIsKnown scope) v.first v.others known) rest stack turns state
