-- A tree of the straight form has one set of parts.
use Rattle.std.proofs.Common.{◌≡◌, ◌↔◌, refl, ℕ, Bool, false, IsTrue, List, [], ◌∷◌, ◌++◌, map, codes, reverse, sym, ap, subst, ◌∙◌}
use Rattle.std.proofs.lemmas.List.{reverse-reverse}
use Rattle.sdg_base.specs.declared.operator.BinOp.TheVariants as bin
use Rattle.java_tree.specs.declared.tree.Expr.TheVariants as e
use Rattle.java_tree.specs.declared.token.Place.{Place}
use Rattle.java_tree.specs.declared.tree.CallForm.{CallForm}
use Rattle.java_tree.specs.declared.tree.Class.{Class}
use Rattle.early_forms.specs.declared.straight.Atom.{Atom}
use Rattle.early_forms.specs.declared.straight.Atom.TheVariants.{Literal, Variable}
use Rattle.early_forms.specs.declared.straight.Sum.{Sum}
use Rattle.early_forms.specs.declared.straight.Statement.{Statement}
use Rattle.early_forms.specs.declared.straight.Statement.TheVariants.{Get, Set, Put}
use Rattle.early_forms.specs.declared.straight.Ending.{Ending}
use Rattle.early_forms.specs.declared.straight.Ending.TheVariants as ending
use Rattle.early_forms.specs.declared.straight.StraightMethod.{StraightMethod}
use Rattle.early_forms.specs.declared.straight.StraightClass.{StraightClass}
use Rattle.early_forms.specs.Trees.{atom_tree, sum_tree, plain, access, got, put_statement, statement_tree, ending_tree, body_tree, result_of, long_parameter, method_tree, table_member, method_member, class_tree}
use Rattle.early_forms.specs.Names.{IsProper}
use Rattle.early_forms.specs.Forms.{IsStraightForm}
use Rattle.early_forms.proofs.Chains.{backwards, sum_backwards, binary_parts, binary_no_atom}
use Rattle.early_forms.proofs.Layers.{IsInjective, plain_injective, called_injective, call_injective, local_injective}
use Rattle.early_forms.proofs.BodyTrees.{return_no_statement}
use Rattle.early_forms.proofs.Classes.{field_name}

map_injective : {X Y : Type 0} (f : X → Y) → IsInjective f → IsInjective (map f)
map_injective f one [] [] same = refl
map_injective f one [] (y ∷ ys) same = cc
map_injective f one (x ∷ xs) [] same = cc
map_injective f one (x ∷ xs) (y ∷ ys) same =
    let heads : f x ≡ f y = cc in
    let tails : map f xs ≡ map f ys = cc in
    let a = one x y heads in
    let b = map_injective f one xs ys tails in
    cc

atom_injective : IsInjective atom_tree
atom_injective (Literal n) (Literal m) same = cc
atom_injective (Literal n) (Variable b) same = cc
atom_injective (Variable a) (Literal m) same = cc
atom_injective (Variable a) (Variable b) same = cc

same_sum : (a b : Atom) (xs ys : List Atom) → a ≡ b → xs ≡ ys → (let s : Sum = record { first = a; others = xs } in let t : Sum = record { first = b; others = ys } in s ≡ t)
same_sum a b xs ys first others = cc

backwards_injective : (a b : Atom) (xs ys : List Atom) → backwards a xs ≡ backwards b ys → (a ≡ b) × (xs ≡ ys)
backwards_injective a b [] [] same = (atom_injective a b same, refl)
backwards_injective a b [] (y ∷ ys) same = absurd (binary_no_atom bin.Add (backwards b ys) (atom_tree y) a (sym same))
backwards_injective a b (x ∷ xs) [] same = absurd (binary_no_atom bin.Add (backwards a xs) (atom_tree x) b same)
backwards_injective a b (x ∷ xs) (y ∷ ys) same =
    let parts = binary_parts bin.Add bin.Add (backwards a xs) (backwards b ys) (atom_tree x) (atom_tree y) same in
    let rest = backwards_injective a b xs ys parts.1 in
    let others = rest.1 in
    let here = atom_injective x y parts.2 in
    (rest.0, cc)

reverse_injective : {X : Type 0} → IsInjective (reverse {A = X})
reverse_injective xs ys same = sym (reverse-reverse xs) ∙ ap reverse same ∙ reverse-reverse ys

sum_injective : IsInjective sum_tree
sum_injective s t same =
    let parts = backwards_injective s.first t.first (reverse s.others) (reverse t.others) (sym (sum_backwards s) ∙ same ∙ sum_backwards t) in
    same_sum s.first t.first s.others t.others parts.0 (reverse_injective s.others t.others parts.1)

plain_sum_injective : IsInjective (λ s. plain (sum_tree s))
plain_sum_injective s t same = sum_injective s t (plain_injective (sum_tree s) (sum_tree t) same)

got_injective : (f g : List ℕ) (s t : Sum) → got f s ≡ got g t → (f ≡ g) × (s ≡ t)
got_injective f g s t same =
    let one = access f (codes "get") (sum_tree s ∷ []) in
    let other = access g (codes "get") (sum_tree t ∷ []) in
    let forms = called_injective one other (plain_injective (e.Call one) (e.Call other) same) in
    let parts = call_injective (codes "get") f g (plain (sum_tree s) ∷ []) (plain (sum_tree t) ∷ []) forms in
    let lists = parts.1 in
    (parts.0, plain_sum_injective s t (cc))

put_injective : (f g : List ℕ) (k l v w : Sum) → put_statement f k v ≡ put_statement g l w → (f ≡ g) × (k ≡ l) × (v ≡ w)
put_injective f g k l v w same =
    let parts = call_injective (codes "put") f g (plain (sum_tree k) ∷ plain (sum_tree v) ∷ []) (plain (sum_tree l) ∷ plain (sum_tree w) ∷ []) (cc) in
    let lists = parts.1 in
    (parts.0, plain_sum_injective k l (cc), plain_sum_injective v w (cc))

call_no_sum : (form : CallForm) (first : Atom) (atoms : List Atom) → e.Call form ≡ backwards first atoms → ⊥
call_no_sum form (Literal n) [] same = cc
call_no_sum form (Variable n) [] same = cc
call_no_sum form first (x ∷ xs) same = cc

get_no_sum : (f : List ℕ) (k v : Sum) → got f k ≡ plain (sum_tree v) → ⊥
get_no_sum f k v same =
    call_no_sum (access f (codes "get") (sum_tree k ∷ [])) v.first (reverse v.others)
    (plain_injective (e.Call (access f (codes "get") (sum_tree k ∷ []))) (sum_tree v) same ∙ sum_backwards v)

statement_injective : IsInjective statement_tree
statement_injective (Get l f k) (Get m g j) same =
    let parts = local_injective l m (got f k) (got g j) same in
    let gets = got_injective f g k j parts.1 in
    let names = parts.0 in
    let fields = gets.0 in
    let keys = gets.1 in
    cc
statement_injective (Get l f k) (Set m v) same = absurd (get_no_sum f k v (local_injective l m (got f k) (plain (sum_tree v)) same).1)
statement_injective (Get l f k) (Put g j v) same = cc
statement_injective (Set l v) (Get m g j) same = absurd (get_no_sum g j v (sym (local_injective l m (plain (sum_tree v)) (got g j) same).1))
statement_injective (Set l v) (Set m w) same =
    let parts = local_injective l m (plain (sum_tree v)) (plain (sum_tree w)) same in
    let names = parts.0 in
    let sums = plain_sum_injective v w parts.1 in
    cc
statement_injective (Set l v) (Put g j w) same = cc
statement_injective (Put f k v) (Get m g j) same = cc
statement_injective (Put f k v) (Set m w) same = cc
statement_injective (Put f k v) (Put g j w) same =
    let parts = put_injective f g k j v w same in
    let fields = parts.0 in
    let keys = parts.1 in
    let values = parts.2 in
    cc

pub ending_injective : IsInjective ending_tree
ending_injective ending.Nothing ending.Nothing same = refl
ending_injective ending.Nothing (ending.Get g j) same = cc
ending_injective ending.Nothing (ending.Sum w) same = cc
ending_injective (ending.Get f k) ending.Nothing same = cc
ending_injective (ending.Get f k) (ending.Get g j) same =
    let parts = got_injective f g k j (cc) in
    let fields = parts.0 in
    let keys = parts.1 in
    cc
ending_injective (ending.Get f k) (ending.Sum w) same = absurd (get_no_sum f k w (cc))
ending_injective (ending.Sum v) ending.Nothing same = cc
ending_injective (ending.Sum v) (ending.Get g j) same = absurd (get_no_sum g j v (cc))
ending_injective (ending.Sum v) (ending.Sum w) same = let sums = plain_sum_injective v w (cc) in cc

body_injective : (ss ts : List Statement) (d f : Ending) → body_tree ss d ≡ body_tree ts f → (ss ≡ ts) × (d ≡ f)
body_injective [] [] d f same = (refl, ending_injective d f same)
body_injective [] (t ∷ ts) d f same = absurd (return_no_statement d t (body_tree ts f) same)
body_injective (s ∷ ss) [] d f same = absurd (return_no_statement f s (body_tree ss d) (sym same))
body_injective (s ∷ ss) (t ∷ ts) d f same =
    let heads : statement_tree s ≡ statement_tree t = cc in
    let tails : body_tree ss d ≡ body_tree ts f = cc in
    let first = statement_injective s t heads in
    let rest = body_injective ss ts d f tails in
    let others = rest.0 in
    (cc, rest.1)

-- bodies of one tree have one type of result
pub body_result : (ss ts : List Statement) (d f : Ending) → body_tree ss d ≡ body_tree ts f → result_of d ≡ result_of f
body_result ss ts d f same = ap result_of (body_injective ss ts d f same).1

parameter_injective : IsInjective long_parameter
parameter_injective a b same = ap (λ p. p.name) same

same_method :
    (a b : List ℕ) (ps qs : List (List ℕ)) (ss ts : List Statement) (d f : Ending) → a ≡ b → ps ≡ qs → ss ≡ ts → d ≡ f →
    (let m : StraightMethod = record { name = a; parameters = ps; statements = ss; ending = d } in
    let n : StraightMethod = record { name = b; parameters = qs; statements = ts; ending = f } in m ≡ n)
same_method a b ps qs ss ts d f names parameters statements endings = cc

method_injective : IsInjective method_tree
method_injective a b same =
    let bodies = body_injective a.statements b.statements a.ending b.ending (ap (λ m. m.body) same) in
    same_method a.name b.name a.parameters b.parameters a.statements b.statements a.ending b.ending (ap (λ m. m.name) same)
    (map_injective long_parameter parameter_injective a.parameters b.parameters (ap (λ m. m.params) same)) bodies.0 bodies.1

member_injective : IsInjective method_member
member_injective a b same = method_injective a b (cc)

members_injective :
    (fs gs : List (List ℕ)) (ms ns : List StraightMethod) →
    map table_member fs ++ map method_member ms ≡ map table_member gs ++ map method_member ns → (fs ≡ gs) × (ms ≡ ns)
members_injective [] [] ms ns same = (refl, map_injective method_member member_injective ms ns same)
members_injective [] (g ∷ gs) [] ns same = absurd (cc)
members_injective [] (g ∷ gs) (m ∷ ms) ns same = absurd (cc)
members_injective (f ∷ fs) [] ms [] same = absurd (cc)
members_injective (f ∷ fs) [] ms (n ∷ ns) same = absurd (cc)
members_injective (f ∷ fs) (g ∷ gs) ms ns same =
    let heads : table_member f ≡ table_member g = cc in
    let tails : map table_member fs ++ map method_member ms ≡ map table_member gs ++ map method_member ns = cc in
    let first = ap field_name heads in
    let rest = members_injective fs gs ms ns tails in
    let others = rest.0 in
    (cc, rest.1)

same_class :
    (a b : List ℕ) (fs gs : List (List ℕ)) (ms ns : List StraightMethod) (ps qs : List Place) → a ≡ b → fs ≡ gs → ms ≡ ns → ps ≡ qs →
    (let c : StraightClass = record { name = a; fields = fs; methods = ms; places = ps } in
    let d : StraightClass = record { name = b; fields = gs; methods = ns; places = qs } in c ≡ d)
same_class a b fs gs ms ns ps qs names fields methods places = cc

pub class_injective : IsInjective class_tree
class_injective c d same =
    let members = members_injective c.fields d.fields c.methods d.methods (ap (λ tree. tree.members) same) in
    same_class c.name d.name c.fields d.fields c.methods d.methods c.places d.places
    (ap (λ tree. tree.name) same) members.0 members.1 (ap (λ tree. tree.places) same)

-- a tree whose parts are not proper is not of the form
pub improper :
    (tree : Class) (parts : StraightClass) → tree ≡ class_tree parts →
    {b : Bool} → b ≡ false → IsTrue b ↔ IsProper parts → IsStraightForm tree → ⊥
improper tree parts is {b} refused says (c, made, proper) =
    let same = class_injective parts c (sym is ∙ made) in
    let holds = says.1 (subst IsProper (sym same) proper) in
    (let h = sym refused ∙ holds in cc)
