-- What a chain of additions tells of its parts.
use Rattle.std.proofs.Common.{◌≡◌, ◌≢◌, refl, List, [], ◌∷◌, ◌++◌, reverse, arith, sym, ap, ◌∙◌}
use Rattle.std.proofs.lemmas.List.{append-nil, reverse-reverse}
use Rattle.std.proofs.lemmas.Grind.{common_steps}
use Rattle.sdg_base.specs.declared.operator.BinOp.{BinOp}
use Rattle.sdg_base.specs.declared.operator.BinOp.TheVariants as bin
use Rattle.java_tree.specs.declared.tree.Expr.{Expr, out-Expr}
use Rattle.java_tree.specs.declared.tree.Expr.TheVariants as e
use Rattle.early_forms.specs.declared.straight.Atom.{Atom}
use Rattle.early_forms.specs.declared.straight.Atom.TheVariants.{Literal, Variable}
use Rattle.early_forms.specs.declared.straight.Sum.{Sum}
use Rattle.early_forms.specs.Trees.{atom_tree, chain, sum_tree}

-- the same tree, of the atoms from the last back
abbrev pub backwards : Atom → List Atom → Expr
backwards first [] = atom_tree first
backwards first (atom ∷ atoms) = e.Binary bin.Add (backwards first atoms) (atom_tree atom)

reverse_seam : {X : Type 0} (x : X) (xs ys : List X) → reverse xs ++ (x ∷ ys) ≡ reverse (x ∷ xs) ++ ys
reverse_seam x xs ys = grind (arith, common_steps)

chain_onto : (first : Atom) (done atoms : List Atom) → chain (backwards first done) atoms ≡ backwards first (reverse atoms ++ done)
chain_onto first done [] = refl
chain_onto first done (atom ∷ atoms) = chain_onto first (atom ∷ done) atoms ∙ ap (backwards first) (reverse_seam atom atoms done)

pub sum_backwards : (s : Sum) → sum_tree s ≡ backwards s.first (reverse s.others)
sum_backwards s = chain_onto s.first [] s.others ∙ ap (backwards s.first) (append-nil (reverse s.others))

-- the sum of atoms that are given from the last back
abbrev pub sum_of : Atom → List Atom → Sum
sum_of first atoms = record { first = first; others = reverse atoms }

sum_of_backwards : (first : Atom) (atoms : List Atom) → sum_tree (sum_of first atoms) ≡ backwards first atoms
sum_of_backwards first atoms = sum_backwards (sum_of first atoms) ∙ ap (backwards first) (reverse-reverse atoms)

pub record BinaryIs (op : BinOp) (left right : Expr) (sum : Sum) (atom : Atom) : Type 0 where
  pub adds : op ≡ bin.Add
  pub left_is : left ≡ sum_tree sum
  pub right_is : right ≡ atom_tree atom

pub binary_parts : (a b : BinOp) (f g l r : Expr) → e.Binary a f l ≡ e.Binary b g r → (a ≡ b) × (f ≡ g) × (l ≡ r)
binary_parts a b f g l r same =
    let x = e.outs-Binary a f l in
    let y = e.outs-Binary b g r in
    let h = ap out-Expr same in
    (cc, cc, cc)

pub binary_no_atom : (op : BinOp) (left right : Expr) (a : Atom) → e.Binary op left right ≢ atom_tree a
binary_no_atom op left right (Literal n) same = cc
binary_no_atom op left right (Variable n) same = cc

binary_backwards :
    (op : BinOp) (left right : Expr) (first : Atom) (atoms : List Atom) → e.Binary op left right ≡ backwards first atoms →
    (sum : Sum) × (atom : Atom) × BinaryIs op left right sum atom
binary_backwards op left right first [] same = absurd (binary_no_atom op left right first same)
binary_backwards op left right first (atom ∷ atoms) same =
    let parts = binary_parts op bin.Add left (backwards first atoms) right (atom_tree atom) same in
    (sum_of first atoms, atom, record { adds = parts.0; left_is = parts.1 ∙ sym (sum_of_backwards first atoms); right_is = parts.2 })

-- an operator that is the last of a sum
pub binary_is : (op : BinOp) (left right : Expr) (s : Sum) → e.Binary op left right ≡ sum_tree s → (sum : Sum) × (atom : Atom) × BinaryIs op left right sum atom
binary_is op left right s same = binary_backwards op left right s.first (reverse s.others) (same ∙ sum_backwards s)

pub chain_none_op : (op : BinOp) (left right : Expr) → op ≢ bin.Add → (s : Sum) → e.Binary op left right ≢ sum_tree s
chain_none_op op left right other s same = other (binary_is op left right s same).2.adds

pub chain_none_left : (op : BinOp) (left right : Expr) → ((s : Sum) → left ≢ sum_tree s) → (s : Sum) → e.Binary op left right ≢ sum_tree s
chain_none_left op left right refused s same = let is = binary_is op left right s same in refused is.0 is.2.left_is

pub chain_none_right : (op : BinOp) (left right : Expr) → ((a : Atom) → right ≢ atom_tree a) → (s : Sum) → e.Binary op left right ≢ sum_tree s
chain_none_right op left right refused s same = let is = binary_is op left right s same in refused is.1 is.2.right_is

chain_snoc : (left : Expr) (atoms : List Atom) (atom : Atom) → chain left (atoms ++ atom ∷ []) ≡ e.Binary bin.Add (chain left atoms) (atom_tree atom)
chain_snoc left [] atom = refl
chain_snoc left (x ∷ xs) atom = chain_snoc (e.Binary bin.Add left (atom_tree x)) xs atom

-- one more atom
pub chain_more :
    (left right : Expr) (first : Atom) (atoms : List Atom) (atom : Atom) → left ≡ chain (atom_tree first) atoms → right ≡ atom_tree atom →
    e.Binary bin.Add left right ≡ chain (atom_tree first) (atoms ++ atom ∷ [])
chain_more left right first atoms atom front last = let h = chain_snoc (atom_tree first) atoms atom in cc

alone_backwards :
    (expr : Expr) (first : Atom) (atoms : List Atom) → ((op : BinOp) (left right : Expr) → expr ≢ e.Binary op left right) →
    ((a : Atom) → expr ≢ atom_tree a) → expr ≢ backwards first atoms
alone_backwards expr first [] no_binary no_atom same = no_atom first same
alone_backwards expr first (atom ∷ atoms) no_binary no_atom same = no_binary bin.Add (backwards first atoms) (atom_tree atom) same

-- neither an operator nor an atom
pub alone_none :
    (expr : Expr) → ((op : BinOp) (left right : Expr) → expr ≢ e.Binary op left right) → ((a : Atom) → expr ≢ atom_tree a) →
    (s : Sum) → expr ≢ sum_tree s
alone_none expr no_binary no_atom s same = alone_backwards expr s.first (reverse s.others) no_binary no_atom (same ∙ sum_backwards s)
