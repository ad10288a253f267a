-- Code that is added part by part.
use Rattle.std.proofs.Common.{◌≡◌, refl, ℕ, zero, suc, ◌+◌, ◌<◌, List, [], ◌∷◌, ◌++◌, length, length-append, get_or, take, drop, sym, ap, ◌∙◌, append_assoc, arith}
use Rattle.std.specs.List.{range_with_len}
use Rattle.std.proofs.Math.Seq.{drop-cons}
use Rattle.std.proofs.lemmas.List.{take_more}
use Rattle.early_forms.specs.declared.straight.Statement.{Statement}
use Rattle.early_forms.specs.declared.straight.Statement.TheVariants.{Get, Set, Put}
use Rattle.early_forms.specs.declared.straight.Ending.{Ending}
use Rattle.early_forms.specs.Names.{locals}
use Rattle.early_task_code.specs.declared.graph.Instr.{Instr}
use Rattle.early_cutter.specs.Points.{Point, point_after}
use Rattle.early_cutter.specs.Lowering.{statement_code, body_code, point_at_end}

pub two_parts : {X : Type 0} (old a b now end : List X) → now ≡ old ++ a → end ≡ now ++ b → end ≡ old ++ (a ++ b)
two_parts old a b now end first second = second ∙ ap (λ xs. xs ++ b) first ∙ append_assoc old a b

pub three_parts : {X : Type 0} (old a b c x y end : List X) → x ≡ old ++ a → y ≡ x ++ b → end ≡ y ++ c → end ≡ old ++ ((a ++ b) ++ c)
three_parts old a b c x y end first second third = two_parts old (a ++ b) c y end (two_parts old a b x y first second) third

pub four_parts :
    {X : Type 0} (old a b c d x y z end : List X) → x ≡ old ++ a → y ≡ x ++ b → z ≡ y ++ c → end ≡ z ++ d → end ≡ old ++ (((a ++ b) ++ c) ++ d)
four_parts old a b c d x y z end first second third fourth =
    two_parts old ((a ++ b) ++ c) d z end (three_parts old a b c x y z first second third) fourth

pub range_more : (a n : ℕ) → range_with_len a (n + 1) ≡ range_with_len a n ++ (a + n) ∷ []
range_more a zero = (let e : a + 0 ≡ a = omega arith in ap (λ x. x ∷ []) (sym e))
range_more a (suc n) =
    let e : (a + 1) + n ≡ a + suc n = omega arith in
    let k : suc n + 1 ≡ suc (n + 1) = omega arith in
    ap (range_with_len a) k ∙ ap (λ xs. a ∷ xs) (range_more (a + 1) n ∙ ap (λ x. range_with_len (a + 1) n ++ x ∷ []) e)

point_at_end-append : (p : Point) (ss ts : List Statement) → point_at_end p (ss ++ ts) ≡ point_at_end (point_at_end p ss) ts
point_at_end-append p [] ts = refl
point_at_end-append p (s ∷ ss) ts = point_at_end-append (point_after s p) ss ts

-- the point behind one statement more
pub point_more :
    (p : Point) (ss : List Statement) (i : ℕ) (s : Statement) → i < length ss → s ≡ get_or ss i s →
    point_at_end p (take (i + 1) ss) ≡ point_after s (point_at_end p (take i ss))
point_more p ss i s within read =
    ap (point_at_end p) (take_more ss i s within) ∙ point_at_end-append p (take i ss) (get_or ss i s ∷ [])
    ∙ ap (λ x. point_after x (point_at_end p (take i ss))) (sym read)

-- the code of the rest of a body, behind one statement more
pub body_more :
    (fields : List (List ℕ)) (p : Point) (ss : List Statement) (end : Ending) (i : ℕ) (s : Statement) (old now whole : List Instr) →
    i < length ss → s ≡ get_or ss i s → now ≡ old ++ statement_code fields p s →
    old ++ body_code fields p (drop i ss) end ≡ whole → now ++ body_code fields (point_after s p) (drop (i + 1) ss) end ≡ whole
body_more fields p ss end i s old now whole within read added so_far =
    let step = drop-cons ss i s within in
    let next : suc i ≡ i + 1 = omega arith in
    let here : drop i ss ≡ s ∷ drop (i + 1) ss = (let h = sym read in cc) in
    let rest = body_code fields (point_after s p) (drop (i + 1) ss) end in
    ap (λ xs. xs ++ rest) added ∙ append_assoc old (statement_code fields p s) rest ∙ ap (λ ts. old ++ body_code fields p ts end) (sym here) ∙ so_far

scope_more : (p q : Point) (local : List ℕ) (ss : List Statement) (n : ℕ) → length (point_at_end q ss).scope ≡ length q.scope + n → q.scope ≡ p.scope ++ local ∷ [] → length (point_at_end q ss).scope ≡ length p.scope + suc n
scope_more p q local ss n ih same = (let a = ap length same in let b = length-append p.scope (local ∷ []) in omega (arith, ih, a, b))

pub scope_length : (p : Point) (ss : List Statement) → length (point_at_end p ss).scope ≡ length p.scope + length (locals ss)
scope_length p [] = omega arith
scope_length p (Get local field key ∷ ss) =
    let q = point_after (Get local field key) p in scope_more p q local ss (length (locals ss)) (scope_length q ss) refl
scope_length p (Set local value ∷ ss) =
    let q = point_after (Set local value) p in scope_more p q local ss (length (locals ss)) (scope_length q ss) refl
scope_length p (Put field key value ∷ ss) = scope_length (point_after (Put field key value) p) ss
