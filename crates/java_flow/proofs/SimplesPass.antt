-- The walk over locals, simple statements and headers passes as many places as they have tokens.
use Rattle.std.proofs.Common.{◌≡◌, ℕ, suc, ◌+◌, Bool, true, false, List, [], ◌∷◌, ◌++◌, map, length, drop, Option, Some, None, refl, ap, ◌∙◌, arith, length-append}
use Rattle.std.specs.List.{flat_map}
use Rattle.std.proofs.lemmas.List.{drop-drop}
use Rattle.java_tree.specs.declared.token.Kind.{Kind}
use Rattle.java_tree.specs.declared.token.Kind.TheVariants as k
use Rattle.java_tree.specs.declared.token.Symbol.TheVariants as symbol
use Rattle.java_tree.specs.declared.tree.Expr.{Expr}
use Rattle.java_tree.specs.declared.tree.Value.{Value}
use Rattle.java_tree.specs.declared.tree.TypeName.{TypeName}
use Rattle.java_tree.specs.declared.tree.TypeName.TheVariants as type_name
use Rattle.java_tree.specs.declared.tree.Local.{Local}
use Rattle.java_tree.specs.declared.tree.AssignOp.{AssignOp}
use Rattle.java_tree.specs.declared.tree.AssignOp.TheVariants as assign
use Rattle.java_tree.specs.declared.tree.Simple.{Simple}
use Rattle.java_tree.specs.declared.tree.Simple.TheVariants as simple
use Rattle.java_tree.specs.declared.tree.ForInit.{ForInit}
use Rattle.java_tree.specs.declared.tree.ForInit.TheVariants as for_init
use Rattle.java_tree.specs.declared.tree.ForHeader.{ForHeader}
use Rattle.java_tree.specs.Tokens.{Kinds, value_tokens, separated, in_parentheses, partial, type_tokens, initialiser, local_tokens, simple_tokens, init_tokens, condition, header_tokens}
use Rattle.java_flow.specs.Assigned.{except}
use Rattle.java_flow.specs.Points.{Point, behind, behind_if, with_assigned}
use Rattle.java_flow.specs.Simples.{initialised, local_walk, target, simple_walk, simples_from, simples_walk}
use Rattle.java_flow.specs.Statements.{init_walk, header_test_walk}
use Rattle.java_flow.specs.Laws.{Passes, header_walk}
use Rattle.java_flow.proofs.Passing.{reading_places, one_more, one_before}
use Rattle.java_flow.proofs.ExpressionsPass.{expr_passes, value_passes, call_passes}

-- ---- locals

-- A type is one token.
pub one_type : (t : TypeName) → length (type_tokens t) ≡ 1
one_type type_name.Int = refl
one_type type_name.Long = refl
one_type type_name.Boolean = refl
one_type (type_name.Named name) = refl

local_count : (t : TypeName) (front others : Kinds) (name : List ℕ) → length front + 2 + length others ≡ length (front ++ (type_tokens t ++ (k.Identifier name ∷ others)))
local_count t front others name = omega (arith, one_type t, length-append {A = Kind})

initialiser_passes : (name : List ℕ) (v : Option Value) → Passes (initialiser v) (initialised name v)
initialiser_passes name None p = refl
initialiser_passes name (Some v) p = value_passes v false (behind 1 p) ∙ one_before (length (value_tokens v)) p.places

local_parts : (is_partial : Bool) (t : TypeName) (name : List ℕ) (v : Option Value)
    → Passes (partial is_partial ++ (type_tokens t ++ (k.Identifier name ∷ initialiser v))) (λ p. initialised name v (with_assigned (except name) (behind 2 (behind_if is_partial 2 p))))
local_parts true t name v p = simp (initialiser_passes name v, drop-drop) (ap (λ (n : ℕ). drop n p.places) (local_count t (partial true) (initialiser v) name))
local_parts false t name v p = simp (initialiser_passes name v, drop-drop) (ap (λ (n : ℕ). drop n p.places) (local_count t (partial false) (initialiser v) name))

pub local_passes : (l : Local) → Passes (local_tokens l) (local_walk l)
local_passes l = local_parts l.is_partial l.type_name l.name l.value

-- ---- simple statements

target_places : (op : AssignOp) (name : List ℕ) (p : Point) → (target op name p).places ≡ p.places
target_places assign.Assign name p = refl
target_places _ name p = reading_places false name p

pub simple_passes : (x : Simple) → Passes (simple_tokens x) (simple_walk x)
simple_passes (simple.Assign name op v) p = simp (value_passes v, target_places op, drop-drop) (grind arith)
simple_passes (simple.PostIncrement name) p = simp reading_places
simple_passes (simple.PostDecrement name) p = simp reading_places
simple_passes (simple.PreIncrement name) p = simp (reading_places, drop-drop)
simple_passes (simple.PreDecrement name) p = simp (reading_places, drop-drop)
simple_passes (simple.Call true call) p = simp (call_passes call, drop-drop) (grind arith)
simple_passes (simple.Call false call) p = call_passes call false p

abbrev others : List Simple → Kinds
others all = flat_map (λ y. k.Symbol symbol.Comma ∷ y) (map simple_tokens all)

simples_from_pass : (all : List Simple) → Passes (others all) (simples_from all)
simples_from_pass [] p = refl
simples_from_pass (x ∷ xs) p = simp (simples_from_pass xs, simple_passes x, drop-drop) (ap (λ (n : ℕ). drop n p.places) (one_more (k.Symbol symbol.Comma) (simple_tokens x) (others xs)))

pub simples_pass : (token : Kind) (all : List Simple) → Passes (token ∷ separated (map simple_tokens all)) (simples_walk all)
simples_pass token [] p = refl
simples_pass token (x ∷ xs) p = simp (simples_from_pass xs, simple_passes x, drop-drop) (ap (λ (n : ℕ). drop n p.places) (one_more token (simple_tokens x) (others xs)))

-- ---- the header of a `for`

pub init_passes : (token : Kind) (i : ForInit) → Passes (token ∷ init_tokens i) (init_walk i)
init_passes token for_init.Nothing p = refl
init_passes token (for_init.Local l) p = local_passes l (behind 1 p) ∙ one_before (length (local_tokens l)) p.places
init_passes token (for_init.Simples all) p = simples_pass token all p

pub header_test_passes : (test : Option Expr) → Passes (condition test) (header_test_walk test)
header_test_passes None p = refl
header_test_passes (Some x) p = expr_passes x false p

header_count : (init test update : Kinds)
    → suc (length init) + 1 + length test + suc (length update) + 1 ≡ length (in_parentheses (init ++ (k.Symbol symbol.Semicolon ∷ (test ++ (k.Symbol symbol.Semicolon ∷ update)))))
header_count init test update = omega (arith, length-append {A = Kind})

pub header_passes : (h : ForHeader) → Passes (in_parentheses (header_tokens h)) (header_walk h)
header_passes h p =
    simp (init_passes (k.Symbol symbol.OpenParen) h.init, header_test_passes h.test, simples_pass (k.Symbol symbol.Semicolon) h.update, drop-drop)
    (ap (λ (n : ℕ). drop n p.places) (header_count (init_tokens h.init) (condition h.test) (separated (map simple_tokens h.update))))
