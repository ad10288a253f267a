-- The literals of a proper class are ints.
use Rattle.std.proofs.Common.{◌≡◌, ℕ, List, [], ◌∷◌, ◌++◌, length, All, arith}
use Rattle.std.proofs.lemmas.List.Elements.{All-cons, All-head, All-tail}
use Rattle.early_forms.specs.declared.straight.Atom.{Atom}
use Rattle.early_forms.specs.declared.straight.Atom.TheVariants.{Literal, Variable}
use Rattle.early_forms.specs.declared.straight.Sum.{Sum}
use Rattle.early_forms.specs.declared.straight.Statement.{Statement}
use Rattle.early_forms.specs.declared.straight.Statement.TheVariants.{Get, Set, Put}
use Rattle.early_forms.specs.declared.straight.Ending.{Ending}
use Rattle.early_forms.specs.declared.straight.Ending.TheVariants as ending
use Rattle.early_forms.specs.declared.straight.StraightMethod.{StraightMethod}
use Rattle.early_forms.specs.declared.straight.StraightClass.{StraightClass}
use Rattle.early_forms.specs.Names.{AtomIsKnown, SumIsKnown, StatementIsKnown, EndingIsKnown, BodyIsKnown, MethodIsProper, IsProper, declared_names}
use Rattle.early_cutter.specs.Lowering.{lowered_methods, task_behind}
use Rattle.early_cutter.specs.Bounds.{AtomFits, SumFits, StatementFits, EndingFits, MethodFits}

atom_fits : (scope : List (List ℕ)) (a : Atom) → AtomIsKnown scope a → AtomFits a
atom_fits scope (Literal n) known = known
atom_fits scope (Variable name) known = tt

sum_fits : (scope : List (List ℕ)) (s : Sum) → SumIsKnown scope s → SumFits s
sum_fits scope s known = record {
  first = atom_fits scope s.first (All-head (AtomIsKnown scope) s.first s.others known);
  others = λ i d within. atom_fits scope _ (All-tail (AtomIsKnown scope) s.first s.others known i d within);
}

statement_fits : (fields scope : List (List ℕ)) (s : Statement) → StatementIsKnown fields scope s → StatementFits s
statement_fits fields scope (Get local field key) known = sum_fits scope key known.1
statement_fits fields scope (Set local value) known = sum_fits scope value known
statement_fits fields scope (Put field key value) known = (sum_fits scope key known.1, sum_fits scope value known.2)

ending_fits : (fields scope : List (List ℕ)) (end : Ending) → EndingIsKnown fields scope end → EndingFits end
ending_fits fields scope ending.Nothing known = tt
ending_fits fields scope (ending.Get field key) known = sum_fits scope key known.1
ending_fits fields scope (ending.Sum value) known = sum_fits scope value known

body_fits : (fields scope : List (List ℕ)) (ss : List Statement) (end : Ending) → BodyIsKnown fields scope ss end → All StatementFits ss × EndingFits end
body_fits fields scope [] end known = (λ i d within. absurd (omega (arith, within)), ending_fits fields scope end known)
body_fits fields scope (s ∷ ss) end known =
    let rest = body_fits fields (scope ++ declared_names s) ss end known.1 in
    (All-cons StatementFits s ss (statement_fits fields scope s known.0) rest.0, rest.1)

method_fits : (fields : List (List ℕ)) (m : StraightMethod) → MethodIsProper fields m → MethodFits m
method_fits fields m proper =
    let fits = body_fits fields m.parameters m.statements m.ending proper.known in record { statements = fits.0; end = fits.1 }

pub methods_fit : (c : StraightClass) → IsProper c → All MethodFits c.methods
methods_fit c proper i d within = method_fits c.fields _ (proper.methods i d within)

pub length-lowered_methods : (fields : List (List ℕ)) (start : ℕ) (ms : List StraightMethod) → length (lowered_methods fields start ms) ≡ length ms
length-lowered_methods fields start [] = omega arith
length-lowered_methods fields start (m ∷ ms) = (let h = length-lowered_methods fields (task_behind start m) ms in omega (arith, h))
