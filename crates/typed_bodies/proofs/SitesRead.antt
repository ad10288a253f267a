-- A part that names no field reads no site.
use Rattle.std.proofs.Common.{◌≡◌, ℕ, zero, suc, Bool, true, false, not, ◌&&◌, List, [], ◌∷◌, ◌++◌, map, fold, drop, slice_get, Option, Some, None, refl, sym, ap, subst, ◌∙◌, append_assoc}
use Rattle.std.specs.List.{list_all}
use Rattle.std.proofs.lemmas.List.Folds.{list_all-append}
use Rattle.java_tree.specs.declared.tree.Expr.{Expr, roll-Expr}
use Rattle.java_tree.specs.declared.tree.Value.{Value, roll-Value}
use Rattle.java_tree.specs.declared.tree.CallForm.{CallForm, roll-CallForm}
use Rattle.java_tree.specs.declared.tree.CallForm.TheOpen.{CallForm-F, Expr-F, Value-F}
use Rattle.java_tree.specs.declared.tree.CallForm.TheOpen as e
use Rattle.java_tree.specs.declared.tree.CallForm.TheFolds.{fold-roll-CallForm, fold-roll-Expr, fold-roll-Value, ind-CallForm, ind-Expr, ind-Value, map-CallForm, map-Expr, map-Value}
use Rattle.java_tree.specs.declared.types.ExprType.{ExprType}
use Rattle.java_tree.specs.declared.types.Declaration.{Declaration}
use Rattle.java_tree.specs.declared.types.Declaration.TheVariants as declaration
use Rattle.access_blocks.specs.declared.body.Expression.{Expression}
use Rattle.access_blocks.specs.declared.scope.Scope.{Scope}
use Rattle.access_blocks.specs.Cursors.{Cursor, Read, read, type_here, behind_type, name_here, behind_name, behind_site, variable_of}
use Rattle.sdg_base.specs.Signatures.{state_method}
use Rattle.access_blocks.specs.Resolving.{Resolving, Calling, class_at, params_of, params_by, header_at, argued, parts, expr_step, value_step, call_step, of_step, own_step, vector_step, expression_of, value_of, call_of}
use Rattle.typed_bodies.specs.Expressions.{is_field}

abbrev pub no_fields : List Declaration → Bool
no_fields names = list_all (λ d. not (is_field d)) names

-- the names that are read between two cursors, and the sites
pub record SitesBetween (c k : Cursor) : Type 0 where
  pub names : List Declaration
  pub are : c.names ≡ names ++ k.names
  pub same : no_fields names ≡ true → k.sites ≡ c.sites
  pub variables : k.variables ≡ c.variables
  pub locals : k.locals ≡ c.locals

abbrev pub ReadsSites : {A : Type 0} → (Cursor → Read A) → Type 0
ReadsSites reading = (c : Cursor) → SitesBetween c (reading c).cursor

both_hold : (a b : Bool) → (a && b) ≡ true → a ≡ true × b ≡ true
both_hold true true e = (refl, refl)
both_hold true false e = absurd (cc)
both_hold false b e = absurd (cc)

none_between : (c : Cursor) → SitesBetween c c
none_between c = record { names = []; are = refl; same = λ e. refl; variables = refl; locals = refl }

pub both_between : {c k l : Cursor} → SitesBetween c k → SitesBetween k l → SitesBetween c l
both_between {l = l} a b = record {
  names = a.names ++ b.names;
  are = a.are ∙ (ap (λ ns. a.names ++ ns) b.are ∙ sym (append_assoc a.names b.names l.names));
  same = λ e.
      let es = both_hold (no_fields a.names) (no_fields b.names) (sym (list_all-append (λ d. not (is_field d)) a.names b.names) ∙ e) in
      b.same es.1 ∙ a.same es.0;
  variables = b.variables ∙ a.variables;
  locals = b.locals ∙ a.locals;
}

-- the name that comes next, where it is one
one_name : (ns : List Declaration) → (first : List Declaration) × (ns ≡ first ++ drop 1 ns)
one_name [] = ([], refl)
one_name (d ∷ ns) = (d ∷ [], refl)

name_between : (c : Cursor) → SitesBetween c (behind_name c)
name_between c = record { names = (one_name c.names).0; are = (one_name c.names).1; same = λ e. refl; variables = refl; locals = refl }

type_between : (c : Cursor) {k : Cursor} → SitesBetween (behind_type c) k → SitesBetween c k
type_between c s = record { names = s.names; are = s.are; same = s.same; variables = s.variables; locals = s.locals }

-- ---- arguments

pub argued_between : (params : List ExprType) (args : List Resolving) (each : (i : ℕ) (r : Resolving) → slice_get args i ≡ Some r → ReadsSites r) (before : Read (List Expression))
    → SitesBetween before.cursor (fold (argued params) before args).cursor
argued_between params [] each before = none_between before.cursor
argued_between params (r ∷ args) each before =
    both_between (each zero r refl before.cursor) (argued_between params args (λ i. each (suc i)) (argued params before r))

module _ (scope : Scope) (args : List Resolving) (each : (i : ℕ) (r : Resolving) → slice_get args i ≡ Some r → ReadsSites r) where
  own_between : (d : Option Declaration) (c : Cursor) → SitesBetween c (own_step scope args d c).cursor
  own_between d c = argued_between (params_of (header_at scope d)) args each (read [] c)

  vector_between : (v : ℕ) (name : List ℕ) (c : Cursor) → SitesBetween c (vector_step v name args c).cursor
  vector_between v name c = argued_between _ args each (read [] c)

  -- behind the name of what it is a method of
  of_between : (name : List ℕ) (c : Cursor) (ns : List Declaration) → c.names ≡ ns → SitesBetween c (of_step scope name args (slice_get ns 0) (behind_name c)).cursor
  of_between name c [] is = both_between (name_between c) (vector_between (variable_of (behind_name c) None) name (behind_name c))
  of_between name c (declaration.Field n ∷ ns) is =
      let a = argued_between (params_by (state_method (class_at scope n) name)) args each (read [] (behind_site (behind_name c))) in
      record {
        names = declaration.Field n ∷ a.names;
        are = is ∙ ap (λ ms. declaration.Field n ∷ ms) (ap (λ ms. drop 1 ms) (sym is) ∙ a.are);
        same = λ e. absurd (cc);
        variables = a.variables;
        locals = a.locals;
      }
  of_between name c (declaration.Method n ∷ ns) is = both_between (name_between c) (vector_between (variable_of (behind_name c) (Some (declaration.Method n))) name (behind_name c))
  of_between name c (declaration.Parameter n ∷ ns) is = both_between (name_between c) (vector_between (variable_of (behind_name c) (Some (declaration.Parameter n))) name (behind_name c))
  of_between name c (declaration.Local n ∷ ns) is = both_between (name_between c) (vector_between (variable_of (behind_name c) (Some (declaration.Local n))) name (behind_name c))

module _ (scope : Scope) where
  abbrev Call : Type 0
  Call = (c : CallForm) × ReadsSites (call_of scope c)

  abbrev Part : Type 0
  Part = (x : Expr) × ReadsSites (expression_of scope x)

  abbrev Arg : Type 0
  Arg = (v : Value) × ReadsSites (value_of scope v)

  abbrev reads : Expr-F CallForm Expr Value → Expr-F Calling Resolving Resolving
  reads = map-Expr CallForm Expr Value Calling Resolving Resolving (call_of scope) (expression_of scope) (value_of scope)

  abbrev bare : Expr-F Call Part Arg → Expr-F CallForm Expr Value
  bare = map-Expr Call Part Arg CallForm Expr Value (λ c. c.0) (λ x. x.0) (λ v. v.0)

  expr_layer : (y : Expr-F Call Part Arg) (t : ExprType) (c : Cursor) → SitesBetween c (parts scope (reads (bare y)) t c).cursor
  expr_layer (e.Conditional test first second) t c = both_between (test.1 c) (both_between (first.1 _) (second.1 _))
  expr_layer (e.Binary op left right) t c = both_between (left.1 c) (right.1 _)
  expr_layer (e.Unary op part) t c = part.1 c
  expr_layer (e.Cast to part) t c = part.1 c
  expr_layer (e.Number digits decimal long) t c = none_between c
  expr_layer (e.Bool b) t c = none_between c
  expr_layer (e.Paren inner) t c = inner.1 c
  expr_layer (e.New name size) t c = size.1 c
  expr_layer (e.Name name) t c = name_between c
  expr_layer (e.Index name at) t c = both_between (name_between c) (at.1 (behind_name c))
  expr_layer (e.Member object name) t c = name_between c
  expr_layer (e.Call call) t c = call.1 c

  expr_made : (x : Expr-F CallForm Expr Value) (y : Expr-F Call Part Arg) → bare y ≡ x → ReadsSites (expression_of scope (roll-Expr x))
  expr_made x y is =
      let P : Expr-F CallForm Expr Value → Type 0 = λ x. ReadsSites (expr_step scope (reads x)) in
      let R : Resolving → Type 0 = λ s. ReadsSites s in
      subst R (sym (fold-roll-Expr Calling Resolving Resolving (call_step scope) (expr_step scope) value_step x))
      (subst P is (λ c. type_between c (expr_layer y (type_here c) (behind_type c))))

  value_made : (x : Value-F CallForm Expr Value) (y : Value-F Call Part Arg) → map-Value Call Part Arg CallForm Expr Value (λ c. c.0) (λ x. x.0) (λ v. v.0) y ≡ x → ReadsSites (value_of scope (roll-Value x))
  value_made x y is =
      let reads_value : Value-F CallForm Expr Value → Value-F Calling Resolving Resolving = map-Value CallForm Expr Value Calling Resolving Resolving (call_of scope) (expression_of scope) (value_of scope) in
      let P : Value-F CallForm Expr Value → Type 0 = λ x. ReadsSites (value_step (reads_value x)) in
      let R : Resolving → Type 0 = λ s. ReadsSites s in
      subst R (sym (fold-roll-Value Calling Resolving Resolving (call_step scope) (expr_step scope) value_step x)) (subst P is (y.expr.1))

  each_arg : (args : List Arg) (i : ℕ) (r : Resolving) → slice_get (map (value_of scope) (map (λ (v : Arg). v.0) args)) i ≡ Some r → ReadsSites r
  each_arg [] i r is = absurd (cc)
  each_arg (v ∷ args) zero r is = subst (λ (s : Resolving). ReadsSites s) (same_some is) v.1
    where
      same_some : {A : Type 0} {x y : A} → Some x ≡ Some y → x ≡ y
      same_some e = cc
  each_arg (v ∷ args) (suc i) r is = each_arg args i r is

  call_layer : (y : CallForm-F Call Part Arg) → ReadsSites (call_step scope (map-CallForm CallForm Expr Value Calling Resolving Resolving (call_of scope) (expression_of scope) (value_of scope) (map-CallForm Call Part Arg CallForm Expr Value (λ c. c.0) (λ x. x.0) (λ v. v.0) y)))
  call_layer (e.Own name args) c = both_between (name_between c) (own_between scope _ (each_arg args) (name_here c) (behind_name c))
  call_layer (e.Of object name args) c = of_between scope _ (each_arg args) name c c.names refl
  call_layer (e.OfMember object at name args) c =
      both_between (name_between c) (both_between (at.1 (behind_name c)) (argued_between _ _ (each_arg args) (read [] _)))

  call_made : (x : CallForm-F CallForm Expr Value) (y : CallForm-F Call Part Arg) → map-CallForm Call Part Arg CallForm Expr Value (λ c. c.0) (λ x. x.0) (λ v. v.0) y ≡ x → ReadsSites (call_of scope (roll-CallForm x))
  call_made x y is =
      let reads_call : CallForm-F CallForm Expr Value → CallForm-F Calling Resolving Resolving = map-CallForm CallForm Expr Value Calling Resolving Resolving (call_of scope) (expression_of scope) (value_of scope) in
      let P : CallForm-F CallForm Expr Value → Type 0 = λ x. ReadsSites (call_step scope (reads_call x)) in
      let R : Calling → Type 0 = λ s. ReadsSites s in
      subst R (sym (fold-roll-CallForm Calling Resolving Resolving (call_step scope) (expr_step scope) value_step x)) (subst P is (call_layer y))

  pub expression_sites : (x : Expr) → ReadsSites (expression_of scope x)
  expression_sites = ind-Expr (λ c. ReadsSites (call_of scope c)) (λ x. ReadsSites (expression_of scope x)) (λ v. ReadsSites (value_of scope v)) call_made expr_made value_made

  pub value_sites : (v : Value) → ReadsSites (value_of scope v)
  value_sites = ind-Value (λ c. ReadsSites (call_of scope c)) (λ x. ReadsSites (expression_of scope x)) (λ v. ReadsSites (value_of scope v)) call_made expr_made value_made

  pub call_sites : (c : CallForm) → ReadsSites (call_of scope c)
  call_sites = ind-CallForm (λ c. ReadsSites (call_of scope c)) (λ x. ReadsSites (expression_of scope x)) (λ v. ReadsSites (value_of scope v)) call_made expr_made value_made
