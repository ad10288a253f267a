-- The scope of a body, statement by statement.
use Rattle.std.proofs.Common.{◌≡◌, ◌↔◌, refl, ℕ, suc, ◌+◌, ◌<◌, List, [], ◌∷◌, ◌++◌, length, get_or, take, drop, sym, ap, ◌∙◌, arith, append_assoc}
use Rattle.std.proofs.Math.Seq.{drop-cons}
use Rattle.std.proofs.lemmas.List.{take_more, append-nil}
use Rattle.early_forms.specs.declared.straight.Statement.{Statement}
use Rattle.early_forms.specs.declared.straight.Ending.{Ending}
use Rattle.early_forms.specs.Names.{StatementIsKnown, BodyIsKnown, declared_names, locals}

pub locals-append : (ss ts : List Statement) → locals (ss ++ ts) ≡ locals ss ++ locals ts
locals-append [] ts = refl
locals-append (s ∷ ss) ts = ap (λ names. declared_names s ++ names) (locals-append ss ts) ∙ sym (append_assoc (declared_names s) (locals ss) (locals ts))

-- the locals of one more statement
pub locals_more :
    (ss : List Statement) (i : ℕ) (d : Statement) → i < length ss → locals (take (i + 1) ss) ≡ locals (take i ss) ++ declared_names (get_or ss i d)
locals_more ss i d within =
    ap locals (take_more ss i d within) ∙ locals-append (take i ss) (get_or ss i d ∷ [])
    ∙ ap (λ names. locals (take i ss) ++ names) (append-nil (declared_names (get_or ss i d)))

pub locals_onto :
    (ss : List Statement) (i : ℕ) (s : Statement) (start old new : List (List ℕ)) → i < length ss → s ≡ get_or ss i s →
    old ≡ start ++ locals (take i ss) → new ≡ old ++ declared_names s → new ≡ start ++ locals (take (i + 1) ss)
locals_onto ss i s start old new within read so_far added =
    let more : locals (take (i + 1) ss) ≡ locals (take i ss) ++ declared_names s =
    locals_more ss i s within ∙ ap (λ x. locals (take i ss) ++ declared_names x) (sym read) in
    added ∙ ap (λ names. names ++ declared_names s) so_far ∙ append_assoc start (locals (take i ss)) (declared_names s) ∙ ap (λ names. start ++ names) (sym more)

pub scope_more :
    (ss : List Statement) (i : ℕ) (s : Statement) (start : List (List ℕ)) → i < length ss → s ≡ get_or ss i s →
    start ++ locals (take (i + 1) ss) ≡ (start ++ locals (take i ss)) ++ declared_names s
scope_more ss i s start within read = sym (locals_onto ss i s start _ _ within read refl refl)

-- the rest of a body, behind one statement more
pub known_split :
    (fields scope : List (List ℕ)) (ss : List Statement) (end : Ending) (i : ℕ) (s : Statement) → i < length ss → s ≡ get_or ss i s →
    BodyIsKnown fields scope (drop i ss) end ↔ (StatementIsKnown fields scope s × BodyIsKnown fields (scope ++ declared_names s) (drop (i + 1) ss) end)
known_split fields scope ss end i s within read =
    let step = drop-cons ss i s within in
    let next : suc i ≡ i + 1 = omega arith in
    let here : drop i ss ≡ s ∷ drop (i + 1) ss = (let h = sym read in cc) in
    rw here (λ known. known, λ known. known)

pub rest_more :
    (fields scope : List (List ℕ)) (ss : List Statement) (end : Ending) (i : ℕ) (s : Statement) (whole : Type 0) → i < length ss → s ≡ get_or ss i s →
    StatementIsKnown fields scope s → whole ↔ BodyIsKnown fields scope (drop i ss) end →
    whole ↔ BodyIsKnown fields (scope ++ declared_names s) (drop (i + 1) ss) end
rest_more fields scope ss end i s whole within read known rest =
    let split = known_split fields scope ss end i s within read in
    (λ all. (split.0 (rest.0 all)).1, λ later. rest.1 (split.1 (known, later)))
