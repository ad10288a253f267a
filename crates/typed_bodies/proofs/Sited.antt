-- An access reads the site that comes next and no other, and has the choice that it says.
use Rattle.std.proofs.Common.{◌≡◌, ℕ, zero, suc, false, List, [], ◌∷◌, map, slice_get, Option, Some, None, refl, sym, ap, subst, ◌∙◌}
use Rattle.sdg_base.specs.Signatures.{state_method, vector_method}
use Rattle.state_classes.specs.declared.method.Method.{Method}
use Rattle.state_classes.specs.Methods.{method_named}
use Rattle.java_tree.specs.declared.tree.CallForm.{CallForm, out-CallForm, roll-out-CallForm}
use Rattle.java_tree.specs.declared.tree.CallForm.TheOpen.{CallForm-F}
use Rattle.java_tree.specs.declared.tree.CallForm.TheOpen as e
use Rattle.java_tree.specs.declared.tree.CallForm.TheFolds.{fold-roll-CallForm, map-CallForm}
use Rattle.java_tree.specs.declared.tree.Expr.{Expr}
use Rattle.java_tree.specs.declared.tree.Value.{Value}
use Rattle.java_tree.specs.declared.types.ExprType.TheVariants as types
use Rattle.java_tree.specs.declared.types.ValueType.TheVariants as value
use Rattle.java_tree.specs.declared.types.Declaration.{Declaration}
use Rattle.java_tree.specs.declared.types.Declaration.TheVariants as declaration
use Rattle.annotations.specs.declared.site.Key.TheVariants as key
use Rattle.annotations.specs.declared.site.Reach.{Reach}
use Rattle.annotations.specs.declared.site.Reach.TheVariants as reach
use Rattle.access_blocks.specs.declared.body.Access.{Access}
use Rattle.access_blocks.specs.declared.body.Choice.{Choice}
use Rattle.access_blocks.specs.declared.body.Choice.TheVariants as choice
use Rattle.access_blocks.specs.declared.body.Expression.{Expression}
use Rattle.access_blocks.specs.declared.resolved.Invoked.{Invoked}
use Rattle.access_blocks.specs.declared.resolved.Invoked.TheVariants as invoked
use Rattle.access_blocks.specs.declared.scope.Header.{Header}
use Rattle.access_blocks.specs.declared.scope.Scope.{Scope}
use Rattle.access_blocks.specs.Cursors.{Cursor, Read, read, name_here, behind_name, behind_site, site_here, variable_of}
use Rattle.access_blocks.specs.Resolving.{Resolving, Calling, accessed, arguments, call_of, call_step, chosen, chosen_in, class_at, expression_of, expr_step, header_at, member_step, of_step, own, own_step, params_by, params_of, taken, value_of, value_step, vector_step}
use Rattle.typed_bodies.specs.Expressions.{is_access}
use Rattle.typed_bodies.proofs.Names.{variable_by}
use Rattle.typed_bodies.proofs.OwnCalls.{no_access_own}
use Rattle.typed_bodies.proofs.Signed.{no_access_vector, no_access_member}
use Rattle.typed_bodies.proofs.SitesRead.{ReadsSites, SitesBetween, argued_between, value_sites}

-- ---- choices

pub chosen_alike : (c k : Cursor) → c.variables ≡ k.variables → c.locals ≡ k.locals → (r : Reach) → chosen_in c r ≡ chosen_in k r
chosen_alike c k e f (reach.Key (key.Literal n)) = refl
chosen_alike c k e f (reach.Key (key.Variable d)) = ap choice.Variable (variable_by (Some d) c k e f)
chosen_alike c k e f (reach.Key key.Compound) = refl
chosen_alike c k e f reach.Local = refl
chosen_alike c k e f reach.Global = refl

-- ---- accesses

-- an access that is read between two cursors
pub record SitedAccess (c k : Cursor) (a : Access) : Type 0 where
  pub choice : a.choice ≡ chosen (behind_name c) (site_here c)
  pub between : SitesBetween (behind_site (behind_name c)) k

abbrev Sites : (c : Cursor) → Read Invoked → Type 0
Sites c r = (a : Access) → r.it ≡ invoked.Accesses a → SitedAccess c r.cursor a

no_access : (c : Cursor) (r : Read Invoked) → is_access r.it ≡ false → Sites c r
no_access c r free a is = let there = ap is_access (sym is) ∙ free in absurd (cc)

abbrev choice_in : Choice → Invoked → Choice
choice_in other (invoked.Value a) = other
choice_in other (invoked.Sets v at a) = other
choice_in other (invoked.Accesses a) = a.choice

choice_is : (field : ℕ) (how : Choice) (o : Option Method) (args : List Expression) (a : Access) → accessed field how o args ≡ invoked.Accesses a → a.choice ≡ how
choice_is field how None args a is = absurd (cc)
choice_is field how (Some m) args a is = sym (ap (choice_in how) is)

no_access_by : (d : Option Declaration) (h : Option Header) (args : List Expression) → is_access (own d h args) ≡ false
no_access_by (Some (declaration.Method m)) h args = no_access_own m h args
no_access_by (Some (declaration.Field m)) h args = refl
no_access_by (Some (declaration.Parameter m)) h args = refl
no_access_by (Some (declaration.Local m)) h args = refl
no_access_by None h args = refl

module _ (scope : Scope) (args : List Resolving) (each : (i : ℕ) (r : Resolving) → slice_get args i ≡ Some r → ReadsSites r) (name : List ℕ) (c : Cursor) where
  access_sited : (n : ℕ) → Sites c (of_step scope name args (Some (declaration.Field n)) (behind_name c))
  access_sited n a is = record {
    choice = choice_is n (chosen (behind_name c) (site_here c)) (method_named (class_at scope n) name) _ a is;
    between = argued_between (params_by (state_method (class_at scope n) name)) args each (read [] (behind_site (behind_name c)));
  }

  vector_sited : (v : ℕ) → Sites c (vector_step v name args (behind_name c))
  vector_sited v = no_access c (vector_step v name args (behind_name c)) (no_access_vector v name (arguments (params_by (vector_method name)) args (behind_name c)).it)

  of_sited : (o : Option Declaration) → Sites c (of_step scope name args o (behind_name c))
  of_sited (Some (declaration.Field n)) = access_sited n
  of_sited (Some (declaration.Method n)) = vector_sited (variable_of (behind_name c) (Some (declaration.Method n)))
  of_sited (Some (declaration.Parameter n)) = vector_sited (variable_of (behind_name c) (Some (declaration.Parameter n)))
  of_sited (Some (declaration.Local n)) = vector_sited (variable_of (behind_name c) (Some (declaration.Local n)))
  of_sited None = vector_sited (variable_of (behind_name c) None)

module _ (scope : Scope) where
  each_value : (args : List Value) (i : ℕ) (r : Resolving) → slice_get (map (value_of scope) args) i ≡ Some r → ReadsSites r
  each_value [] i r is = absurd (cc)
  each_value (v ∷ args) zero r is = subst (λ (s : Resolving). ReadsSites s) (same_some is) (value_sites scope v)
    where
      same_some : {A : Type 0} {x y : A} → Some x ≡ Some y → x ≡ y
      same_some e = cc
  each_value (v ∷ args) (suc i) r is = each_value args i r is

  abbrev reads : CallForm-F CallForm Expr Value → CallForm-F Calling Resolving Resolving
  reads = map-CallForm CallForm Expr Value Calling Resolving Resolving (call_of scope) (expression_of scope) (value_of scope)

  layer_sited : (x : CallForm-F CallForm Expr Value) (c : Cursor) → Sites c (call_step scope (reads x) c)
  layer_sited (e.Own name args) c =
      let d = name_here c in
      no_access c (own_step scope (map (value_of scope) args) d (behind_name c))
      (no_access_by d (header_at scope d) (arguments (params_of (header_at scope d)) (map (value_of scope) args) (behind_name c)).it)
  layer_sited (e.Of object name args) c = of_sited scope (map (value_of scope) args) (each_value args) name c (name_here c)
  layer_sited (e.OfMember object at name args) c =
      let i = expression_of scope at (behind_name c) in
      no_access c (member_step (expression_of scope at) name (map (value_of scope) args) (behind_name c))
      (no_access_member (taken (types.Value value.Int) i.it) name (arguments (params_by (vector_method name)) (map (value_of scope) args) i.cursor).it)

  pub call_sited : (call : CallForm) (c : Cursor) → Sites c (call_of scope call c)
  call_sited call =
      let P : CallForm → Type 0 = λ x. (c : Cursor) → Sites c (call_of scope x c) in
      let R : Calling → Type 0 = λ s. (c : Cursor) → Sites c (s c) in
      subst P (roll-out-CallForm call) (subst R (sym (fold-roll-CallForm Calling Resolving Resolving (call_step scope) (expr_step scope) value_step (out-CallForm call))) (layer_sited (out-CallForm call)))
