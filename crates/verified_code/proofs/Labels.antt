-- What holds at each place of a body's code: the types on the stack, what is known, and how far a way may still go without a turn.
use Rattle.std.proofs.Common.{◌≡◌, ◌≢◌, refl, sym, subst, ◌∙◌, ℕ, suc, ◌+◌, ◌<◌, ◌≤◌, arith, Bool, true, false, List, [], ◌∷◌, ◌++◌, length, drop, Option, Some, None, slice_get, ◌⊎◌, inl, inr}
use Rattle.sdg_base.specs.declared.value_type.ValueType.{ValueType}
use Rattle.sdg_base.specs.declared.value_type.ValueType.TheVariants as type
use Rattle.sdg_base.specs.Signatures.{Signature}
use Rattle.state_classes.specs.declared.method.Method.{Method}
use Rattle.java_tree.specs.declared.method_kinds.MethodKind.TheVariants as source_kind
use Rattle.flat_code.specs.declared.graph.Graph.{Graph}
use Rattle.flat_code.specs.declared.graph.GraphMethod.{GraphMethod}
use Rattle.flat_code.specs.declared.graph.Instr.{Instr}
use Rattle.flat_code.specs.declared.graph.Instr.TheVariants as instr
use Rattle.flat_code.specs.declared.graph.MethodKind.TheVariants as method_kind
use Rattle.flat_code.specs.Types.{signature_at}
use Rattle.flat_code.specs.Ways.{IsIn, next_of, next_in_task, reads, writes}
use Rattle.flat_code.specs.Verified.{Stack, on_top, types_after, is_of_entry, is_of_merge, IsJumpTo, HasMethod}
use Rattle.access_blocks.specs.declared.body.Holder.{Holder}
use Rattle.body_code.specs.Early.{is_in}
use Rattle.body_code.specs.StatementCode.{name_in}
use Rattle.body_code.specs.Checking.{Surroundings, Standing, has_key, takes_gathered, is_partitioned}
use Rattle.task_cutter.specs.Tasks.{first_field, is_visit}

-- what stands right before a place to which nothing jumps
pub data Behind : Type 0 where
  Anything : Behind
  Turning : Behind
  Accessing : Behind

-- what holds at a place; in a visit, where its part stands
pub record Label : Type 0 where
  pub stack : Stack
  pub standing : Standing
  pub visit : Option ℕ
  pub behind : Behind
  pub rank : ℕ

abbrev pub label : Standing → Stack → ℕ → Label
label st stack rank = record { stack = stack; standing = st; visit = None; behind = Anything; rank = rank }

-- the class, the method, and what its body stands in
pub record Setting : Type 0 where
  pub graph : Graph
  pub of : GraphMethod
  pub around : Surroundings

abbrev pub Knows : Standing → ℕ → Type 0
Knows st v = is_in v st.known ≡ true

-- a variable that may be read: the collection of a merge method always has its members
pub data MayRead (s : Setting) (st : Standing) (v : ℕ) : Type 0 where
  IsKnown : Knows st v → MayRead s st v
  IsCollection : (t : ValueType) → s.around.context.members ≡ Some t → v ≡ 0 → MayRead s st v

-- what a task knows of itself at one place, it knows at another one
pub record Stays (a b : Label) : Type 0 where
  pub field : (b.standing.field ≡ None) ⊎ (b.standing.field ≡ a.standing.field)
  pub gathered : (b.standing.gathered ≡ None) ⊎ (b.standing.gathered ≡ a.standing.gathered)
  pub visit : b.visit ≡ a.visit

-- a place of which less is said
pub record Eases (a b : Label) : Type 0 where
  pub stack : b.stack ≡ a.stack
  pub known : (v : ℕ) → Knows b.standing v → Knows a.standing v
  pub stays : Stays a b
  pub behind : b.behind ≡ Anything
  pub rank : b.rank ≤ a.rank

either_way : {A : Type 0} {a b c : Option A} → (c ≡ None) ⊎ (c ≡ b) → (b ≡ None) ⊎ (b ≡ a) → (c ≡ None) ⊎ (c ≡ a)
either_way (inl e) h = inl e
either_way (inr e) (inl f) = inl (e ∙ f)
either_way (inr e) (inr f) = inr (e ∙ f)

pub stays_on : {a b c : Label} → Stays a b → Stays b c → Stays a c
stays_on h k = record { field = either_way k.field h.field; gathered = either_way k.gathered h.gathered; visit = k.visit ∙ h.visit }

pub eases_on : {a b c : Label} → Eases a b → Eases b c → Eases a c
eases_on {a = a} {b = b} {c = c} h k =
    let below : b.rank ≤ a.rank = h.rank in
    let further : c.rank ≤ b.rank = k.rank in
    record { stack = k.stack ∙ h.stack; known = λ v is. h.known v (k.known v is); stays = stays_on h.stays k.stays; behind = k.behind; rank = omega (arith, below, further) }

pub same_eases : (st : Standing) (stack : Stack) (few many : ℕ) → few ≤ many → Eases (label st stack many) (label st stack few)
same_eases st stack few many less = record { stack = refl; known = λ v is. is; stays = record { field = inr refl; gathered = inr refl; visit = refl }; behind = refl; rank = less }

-- ---- what an instruction has at its place

pub record AtKey (s : Setting) (l : Label) : Type 0 where
  pub keyed : has_key s.around l.standing.field ≡ true
  pub plain : l.visit ≡ None

pub record AtMerge (s : Setting) (l : Label) (n : ℕ) : Type 0 where
  pub gathered : takes_gathered s.around l.standing.gathered n ≡ true
  pub merges : HasMethod s.graph n method_kind.Merge
  pub plain : l.visit ≡ None
  pub turned : l.behind ≡ Turning

pub record AtCall (s : Setting) (l : Label) (n : ℕ) : Type 0 where
  pub helps : HasMethod s.graph n method_kind.Helper
  pub plain : l.visit ≡ None
  pub turned : l.behind ≡ Turning

-- an access in the block of its field, or in a visit of its partial field right before the part
pub data AtAccess (s : Setting) (lab : ℕ → Label) (at : ℕ) (name : List ℕ) (m : Method) : Type 0 where
  InBlock : (field : ℕ) → (lab at).visit ≡ None → (lab at).standing.field ≡ Some field → name ≡ name_in (slice_get s.graph.fields field) → AtAccess s lab at name m
  InVisit : (field : ℕ) (h : Holder) (sig : Signature) → slice_get s.around.fields field ≡ Some h → h.is_partial ≡ true → (lab at).visit ≡ Some (suc at) → name ≡ name_in (slice_get s.graph.fields field) → signature_at s.graph.fields name m ≡ Some sig
      → (lab (suc at)).stack ≡ on_top sig.result [] → ((lab (suc (suc at))).standing.gathered ≡ None) ⊎ ((lab (suc (suc at))).standing.gathered ≡ Some sig.result) → AtAccess s lab at name m

pub record AtPart (lab : ℕ → Label) (at : ℕ) : Type 0 where
  pub visit : (lab at).visit ≡ Some at
  pub behind : (lab at).behind ≡ Accessing
  pub plain : (lab (suc at)).visit ≡ None
  pub no_field : (lab (suc at)).standing.field ≡ None

pub data AtLoad (lab : ℕ → Label) (at : ℕ) : Type 0 where
  Plainly : (lab at).visit ≡ None → AtLoad lab at
  Visiting : (part : ℕ) → (lab at).visit ≡ Some part → suc (suc at) ≤ part → AtLoad lab at

abbrev pub KeyIs : Bool → Stack → Type 0
KeyIs true stack = stack ≡ type.Long ∷ []
KeyIs false stack = stack ≡ []

-- what a cut begins: a block of a field, which the first access behind it is to, or a visit
pub data AtCut (s : Setting) (lab : ℕ → Label) (at : ℕ) : Type 0 where
  ToBlock : (field : ℕ) (h : Holder) → slice_get s.around.fields field ≡ Some h → KeyIs (is_partitioned (Some h)) (lab at).stack → (lab (suc at)).visit ≡ None
      → ((lab (suc at)).standing.field ≡ None) ⊎ ((lab (suc at)).standing.field ≡ Some field) → (lab (suc at)).standing.gathered ≡ None
      → first_field (drop (suc at) s.of.code) ≡ Some (name_in (slice_get s.graph.fields field)) → is_visit (drop (suc at) s.of.code) ≡ false → AtCut s lab at
  ToVisit : (field part : ℕ) (h : Holder) → slice_get s.around.fields field ≡ Some h → h.is_partial ≡ true → (lab at).stack ≡ [] → (lab (suc at)).visit ≡ Some part → suc at < part
      → (lab (suc at)).standing.field ≡ None → (lab (suc at)).standing.gathered ≡ None → AtCut s lab at

pub record CutsAt (s : Setting) (lab : ℕ → Label) (at : ℕ) : Type 0 where
  pub plain : (lab at).visit ≡ None
  pub turned : (lab at).behind ≡ Turning
  pub to : AtCut s lab at

abbrev pub Own : Setting → (ℕ → Label) → ℕ → Instr → Type 0
Own s lab at instr.Key = AtKey s (lab at)
Own s lab at (instr.Merge n) = AtMerge s (lab at) n
Own s lab at (instr.Call n) = AtCall s (lab at) n
Own s lab at (instr.Access name m) = AtAccess s lab at name m
Own s lab at (instr.Cut t) = CutsAt s lab at
Own s lab at (instr.Part t) = AtPart lab at
Own s lab at (instr.Load v) = AtLoad lab at
Own s lab at _ = (lab at).visit ≡ None

abbrev pub Takes : Setting → Instr → Stack → Stack → Type 0
Takes s (instr.Cut t) stack after = after ≡ []
Takes s (instr.Part t) stack after = after ≡ []
Takes s i stack after = types_after s.graph s.of i stack ≡ Some after

-- only right behind a turn, or an access
abbrev pub Suits : Instr → Behind → Type 0
Suits i Anything = Unit {0}
Suits i Turning = i ≡ instr.Turn
Suits (instr.Access name m) Accessing = Unit {0}
Suits i Accessing = ⊥

-- only in entry methods, only in merge methods
pub record OfKind (s : Setting) (i : Instr) : Type 0 where
  pub entry : is_of_entry i ≡ true → s.around.kind ≡ source_kind.Entry
  pub merge : is_of_merge i ≡ true → s.around.kind ≡ source_kind.Merge

pub record Right (s : Setting) (lab : ℕ → Label) (at : ℕ) (i : Instr) : Type 0 where
  pub after : Stack
  pub takes : Takes s i (lab at).stack after
  pub stacks : (next : ℕ) → IsIn next (next_of at i) → (lab next).stack ≡ after
  pub ranks : (next : ℕ) → IsIn next (next_of at i) → i ≢ instr.Turn → (lab next).rank < (lab at).rank
  pub knows : (next : ℕ) → IsIn next (next_of at i) → (v : ℕ) → Knows (lab next).standing v → Knows (lab at).standing v ⊎ (writes i ≡ Some v)
  pub may_read : (v : ℕ) → IsIn v (reads i) → MayRead s (lab at).standing v
  pub jumps : (next : ℕ) → IsJumpTo next i → (lab next).behind ≡ Anything
  pub stays : (next : ℕ) → IsIn next (next_in_task at i) → Stays (lab at) (lab next)
  pub own : Own s lab at i
  pub suits : Suits i (lab (suc at)).behind
  pub kind : OfKind s i

-- ---- code at a place

abbrev pub Good : Setting → (ℕ → Label) → ℕ → List Instr → Type 0
Good s lab at [] = Unit {0}
Good s lab at (i ∷ code) = Right s lab at i × Good s lab (suc at) code

abbrev pub Agrees : (ℕ → Label) → ℕ → List Label → Type 0
Agrees lab at [] = Unit {0}
Agrees lab at (l ∷ ls) = (lab at ≡ l) × Agrees lab (suc at) ls

pub good_both : (s : Setting) (lab : ℕ → Label) (at k : ℕ) (xs ys : List Instr) → k ≡ at + length xs → Good s lab at xs → Good s lab k ys → Good s lab at (xs ++ ys)
good_both s lab at k [] ys e h g = subst (λ n. Good s lab n ys) (omega (arith, e)) g
good_both s lab at k (x ∷ xs) ys e h g = (h.0, good_both s lab (suc at) k xs ys (omega (arith, e)) h.1 g)

pub agrees_left : (lab : ℕ → Label) (at : ℕ) (xs ys : List Label) → Agrees lab at (xs ++ ys) → Agrees lab at xs
agrees_left lab at [] ys h = tt
agrees_left lab at (x ∷ xs) ys h = (h.0, agrees_left lab (suc at) xs ys h.1)

pub agrees_right : (lab : ℕ → Label) (at k : ℕ) (xs ys : List Label) → k ≡ at + length xs → Agrees lab at (xs ++ ys) → Agrees lab k ys
agrees_right lab at k [] ys e h = subst (λ n. Agrees lab n ys) (omega (arith, e)) h
agrees_right lab at k (x ∷ xs) ys e h = agrees_right lab (suc at) k xs ys (omega (arith, e)) h.1

-- The first label is that of where the code begins; where there is no code, that of what is behind it.
abbrev pub Begins : List Label → Label → Label → Type 0
Begins [] first after = Eases first after
Begins (l ∷ ls) first after = Eases first l

-- Code has labels, from a standing and a stack to what holds behind it, where what is outside of it has what it needs.
pub record Made (s : Setting) (Out : (ℕ → Label) → Type 0) (at : ℕ) (code : List Instr) (st : Standing) (stack : Stack) (after : Label) : Type 0 where
  pub rank : ℕ
  pub above : after.rank ≤ rank
  pub labels : List Label
  pub long : length labels ≡ length code
  pub begins : Begins labels (label st stack rank) after
  pub good : (lab : ℕ → Label) (end : ℕ) → end ≡ at + length code → Agrees lab at labels → Eases after (lab end) → Out lab → Good s lab at code

pub begins_with : (lab : ℕ → Label) (at end : ℕ) (ls : List Label) (st : Standing) (stack : Stack) (rank : ℕ) (after : Label) → Begins ls (label st stack rank) after → end ≡ at + length ls
    → Agrees lab at ls → Eases after (lab end) → Eases (label st stack rank) (lab at)
begins_with lab at end [] st stack rank after b e h k = eases_on b (subst (λ n. Eases after (lab n)) (omega (arith, e)) k)
begins_with lab at end (l ∷ ls) st stack rank after b e h k =
    subst (λ (x : Label). Eases (label st stack rank) x) (sym h.0) b

pub joined : (xs ys : List Label) (first middle after : Label) → Begins xs first middle → Begins ys middle after → Begins (xs ++ ys) first after
joined [] [] first middle after h k = eases_on h k
joined [] (y ∷ ys) first middle after h k = eases_on h k
joined (x ∷ xs) ys first middle after h k = h
