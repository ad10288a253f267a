-- Compound assignments, and `++` and `--`, give a variable a value of its type.
use Rattle.std.proofs.Common.{◌≡◌, ℕ, Bool, true, false, not, ◌&&◌, ◌||◌, Option, Some, None, refl, sym, ap, ap₂, subst, ◌∙◌}
use Rattle.std.specs.Prelude.{pos}
use Rattle.sdg_base.specs.declared.operator.BinOp.{BinOp}
use Rattle.sdg_base.specs.declared.operator.BinOp.TheVariants as bin
use Rattle.sdg_base.specs.declared.val.Num.TheVariants as num
use Rattle.sdg_base.specs.Types.{binary_type}
use Rattle.java_tree.specs.declared.tree.AssignOp.{AssignOp}
use Rattle.java_tree.specs.declared.tree.AssignOp.TheVariants as assign
use Rattle.java_tree.specs.declared.types.ValueType.{ValueType}
use Rattle.java_tree.specs.declared.types.ValueType.TheVariants as value
use Rattle.java_tree.specs.declared.types.ExprType.{ExprType}
use Rattle.java_tree.specs.declared.types.ExprType.TheVariants as types
use Rattle.java_types.specs.declared.fits.Sort.{Sort}
use Rattle.java_types.specs.declared.fits.Sort.TheVariants as sort
use Rattle.java_types.specs.Fits.{are_vectors_compared, given_by, go_together, is_known, is_operand, may_be_number, misfits_behind, promoted, sort_of}
use Rattle.java_types.specs.Simples.{operator_of}
use Rattle.access_blocks.specs.declared.body.Expression.{Expression}
use Rattle.access_blocks.specs.declared.body.Expression.TheVariants as x
use Rattle.access_blocks.specs.declared.body.Statement.TheVariants as statement
use Rattle.access_blocks.specs.declared.resolved.Resolved.{Resolved}
use Rattle.access_blocks.specs.Resolving.{converted_to, is_long, operated, operated_type, resolved}
use Rattle.access_blocks.specs.Resolving as resolving
use Rattle.access_blocks.specs.ResolvingStatements.{compounded, one, step_of}
use Rattle.body_code.specs.Typing.{Context, cast_type, needs, of_two, type_by, type_of, variable_type}
use Rattle.body_code.specs.Checking.{Surroundings}
use Rattle.typed_bodies.specs.Reading.{Place, IsOfType}
use Rattle.typed_bodies.specs.Needing.{IsWithin}
use Rattle.typed_bodies.specs.Parts.{Changes}
use Rattle.typed_bodies.specs.PartLaws.{IsVariable, is_step}
use Rattle.typed_bodies.specs.Targets.{StandsIn}
use Rattle.typed_bodies.proofs.Arguments.{known_typed}
use Rattle.typed_bodies.proofs.Assigns.{assign_assigns}
use Rattle.typed_bodies.proofs.Conversions.{binary_is, cast_is, int_is, long_is, operated_typed, variable_is}
use Rattle.typed_bodies.proofs.Needing.{within_binary, within_converted, within_int, within_long, within_operated, within_variable}
use Rattle.typed_bodies.proofs.PartsFound.{Found}
use Rattle.typed_bodies.proofs.Running.{knows_read, assign_runs, plain_met}

-- ---- back to the type of the variable

-- the sorts of the operators that assign
abbrev pub assigns : Sort → Bool
assigns sort.Arithmetic = true
assigns sort.Shift = true
assigns sort.Bitwise = true
assigns _ = false

abbrev operator_assigns : Option BinOp → Bool
operator_assigns None = true
operator_assigns (Some op) = assigns (sort_of op)

each_assigns : (a : AssignOp) → operator_assigns (operator_of a) ≡ true
each_assigns assign.Assign = refl
each_assigns assign.Add = refl
each_assigns assign.Sub = refl
each_assigns assign.Mul = refl
each_assigns assign.Div = refl
each_assigns assign.Rem = refl
each_assigns assign.And = refl
each_assigns assign.Or = refl
each_assigns assign.Xor = refl
each_assigns assign.Shl = refl
each_assigns assign.Shr = refl
each_assigns assign.UShr = refl

pub of_assignment : (a : AssignOp) (op : BinOp) → operator_of a ≡ Some op → assigns (sort_of op) ≡ true
of_assignment a op is = ap operator_assigns (sym is) ∙ each_assigns a

-- the type of what an operator gives, as it is converted
abbrev gives : Sort → ExprType → ExprType → ExprType
gives sort.Shift a b = a
gives _ a b = resolving.promoted a b

gives_is : (op : BinOp) (a b : ExprType) → operated_type op a b ≡ gives (sort_of op) a b
gives_is bin.Mul a b = refl
gives_is bin.Div a b = refl
gives_is bin.Rem a b = refl
gives_is bin.Add a b = refl
gives_is bin.Sub a b = refl
gives_is bin.Shl a b = refl
gives_is bin.Shr a b = refl
gives_is bin.UShr a b = refl
gives_is bin.Lt a b = refl
gives_is bin.Le a b = refl
gives_is bin.Gt a b = refl
gives_is bin.Ge a b = refl
gives_is bin.Eq a b = refl
gives_is bin.Ne a b = refl
gives_is bin.And a b = refl
gives_is bin.Xor a b = refl
gives_is bin.Or a b = refl
gives_is bin.AndAlso a b = refl
gives_is bin.OrElse a b = refl

-- a number, or a truth value, of two that go together
promoted_back : (c : Context) (t : ValueType) (found : ExprType) (a : Expression) → go_together (types.Value t) found ≡ true → is_known found ≡ true → IsOfType c (promoted (types.Value t) found) a
    → type_of c (converted_to (types.Value t) (resolving.promoted (types.Value t) found) a) ≡ Some (type_by t)
promoted_back c value.Int (types.Value value.Int) a fit known typed = typed
promoted_back c value.Int (types.Value value.Long) a fit known typed = cast_is c num.Int a ∙ ap (cast_type num.Int) typed
promoted_back c value.Long (types.Value value.Int) a fit known typed = typed
promoted_back c value.Long (types.Value value.Long) a fit known typed = typed
promoted_back c value.Boolean (types.Value value.Boolean) a fit known typed = typed
promoted_back c t found a fit known typed = absurd (cc)

shift_back : (c : Context) (t : ValueType) (a : Expression) → IsOfType c (types.Value t) a → type_of c (converted_to (types.Value t) (types.Value t) a) ≡ Some (type_by t)
shift_back c value.Int a typed = typed
shift_back c value.Long a typed = typed
shift_back c value.Boolean a typed = typed
shift_back c value.Vector a typed = typed

together : (a b c : Bool) → not a ≡ false → (not b || a && not c) ≡ false → c ≡ true
together true true true e f = refl
together true true false e f = absurd (cc)
together true false c e f = absurd (cc)
together false b c e f = absurd (cc)

sort_back : (c : Context) (s : Sort) (t : ValueType) (found : ExprType) (a : Expression) → assigns s ≡ true → not (is_operand s (types.Value t)) ≡ false → misfits_behind s (types.Value t) found ≡ false
    → is_known found ≡ true → IsOfType c (given_by s (types.Value t) found) a → type_of c (converted_to (types.Value t) (gives s (types.Value t) found) a) ≡ Some (type_by t)
sort_back c sort.Arithmetic t found a is first second known typed =
    promoted_back c t found a (together (is_operand sort.Arithmetic (types.Value t)) (is_operand sort.Arithmetic found) (go_together (types.Value t) found) first second) known typed
sort_back c sort.Bitwise t found a is first second known typed =
    promoted_back c t found a (together (is_operand sort.Bitwise (types.Value t)) (is_operand sort.Bitwise found) (go_together (types.Value t) found) first second) known typed
sort_back c sort.Shift t found a is first second known typed = shift_back c t a typed
sort_back c sort.Comparison t found a is first second known typed = absurd (cc)
sort_back c sort.Equality t found a is first second known typed = absurd (cc)
sort_back c sort.Logical t found a is first second known typed = absurd (cc)

-- ---- statements

module _ (p : Place) (around : Surroundings) (stands : StandsIn p around) (variable : ℕ) (t : ValueType) (is : IsVariable p variable t) where
  -- a value of its type is assigned
  assigned_changes : (a : Expression) → type_of p.context a ≡ Some (type_by t) → IsWithin p (needs a) → Changes p around variable (statement.Assign variable a)
  assigned_changes a typed within = record {
    reads = (needs a).variables;
    assigns = assign_assigns variable a;
    runs = λ exits st knows.
        assign_runs around exits st variable a (type_by t) (ap (λ (c : Context). type_of c a) stands.context ∙ typed) (ap (λ (c : Context). variable_type c variable) stands.context ∙ is.typed)
        (plain_met p st around a (type_by t) typed within (knows_read p st knows (needs a).variables));
  }

  variable_typed : type_of p.context (x.Variable variable) ≡ Some (type_by t)
  variable_typed = variable_is p.context variable ∙ is.typed

  abbrev old : Resolved
  old = resolved (x.Variable variable) (types.Value t)

  compound_by : (op : BinOp) (r : Resolved) → assigns (sort_of op) ≡ true → are_vectors_compared (sort_of op) (types.Value t) r.found ≡ false → not (is_operand (sort_of op) (types.Value t)) ≡ false
      → misfits_behind (sort_of op) (types.Value t) r.found ≡ false → IsOfType p.context r.found r.expression → IsWithin p (needs r.expression) → Changes p around variable (compounded op variable old r)
  compound_by op r assigning vectors first second typed within =
      let made = operated_typed p.context op old r variable_typed typed vectors first second in
      let back = sort_back p.context (sort_of op) t r.found (operated op old r) assigning first second (known_typed p.context r.found r.expression typed) made in
      let a = converted_to (types.Value t) (operated_type op (types.Value t) r.found) (operated op old r) in
      assigned_changes a (ap (λ (f : ExprType). type_of p.context (converted_to (types.Value t) f (operated op old r))) (gives_is op (types.Value t) r.found) ∙ back)
      (within_converted p (types.Value t) (operated_type op (types.Value t) r.found) (operated op old r) (within_operated p op old r (within_variable p variable is.in_scope) within))

  pub compound_changes : (op : BinOp) (found : ExprType) (r : Resolved) → assigns (sort_of op) ≡ true → are_vectors_compared (sort_of op) (types.Value t) found ≡ false
      → not (is_operand (sort_of op) (types.Value t)) ≡ false → misfits_behind (sort_of op) (types.Value t) found ≡ false → Found p found r → Changes p around variable (compounded op variable old r)
  compound_changes op found r assigning vectors first second f =
      compound_by op r assigning (ap (λ (g : ExprType). are_vectors_compared (sort_of op) (types.Value t) g) f.same ∙ vectors) first
      (ap (λ (g : ExprType). misfits_behind (sort_of op) (types.Value t) g) f.same ∙ second) (subst (λ (g : ExprType). IsOfType p.context g r.expression) (sym f.same) f.typed) f.within

  -- ---- `++` and `--`

  step_type : (op : BinOp) (b : Expression) → is_step op ≡ true → type_of p.context b ≡ Some (type_by t) → may_be_number (types.Value t) ≡ true
      → type_of p.context (x.Binary op (x.Variable variable) b) ≡ Some (type_by t)
  step_type op b step typed number =
      binary_is p.context op (x.Variable variable) b
      ∙ (ap₂ (λ r s. of_two (binary_type op) r s) variable_typed typed ∙ sum_type op t step number)
    where
      sum_type : (op : BinOp) (t : ValueType) → is_step op ≡ true → may_be_number (types.Value t) ≡ true → binary_type op (type_by t) (type_by t) ≡ Some (type_by t)
      sum_type bin.Add value.Int e f = refl
      sum_type bin.Add value.Long e f = refl
      sum_type bin.Sub value.Int e f = refl
      sum_type bin.Sub value.Long e f = refl
      sum_type op t e f = absurd (cc)

  one_typed : (t : ValueType) → may_be_number (types.Value t) ≡ true → type_of p.context (one (is_long (types.Value t))) ≡ Some (type_by t)
  one_typed value.Int e = int_is p.context (pos 1)
  one_typed value.Long e = long_is p.context (pos 1)
  one_typed value.Boolean e = absurd (cc)
  one_typed value.Vector e = absurd (cc)

  one_within : (long : Bool) → IsWithin p (needs (one long))
  one_within true = within_long p (pos 1)
  one_within false = within_int p (pos 1)

  pub step_changes : (op : BinOp) → is_step op ≡ true → may_be_number (types.Value t) ≡ true → Changes p around variable (step_of op variable (types.Value t))
  step_changes op step number =
      let b = one (is_long (types.Value t)) in
      assigned_changes (x.Binary op (x.Variable variable) b) (step_type op b step (one_typed t number) number) (within_binary p op (x.Variable variable) b (within_variable p variable is.in_scope) (one_within (is_long (types.Value t))))
