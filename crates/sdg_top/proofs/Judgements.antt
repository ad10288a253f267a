-- What the tokens and the errors of a text say of the text.
use Rattle.std.proofs.Common.{◌≡◌, ℕ, List, [], Result, Ok, Err, Contains, ◌⊎◌, inl, inr, codes, sym, subst, ◌∙◌, arith}
use Rattle.java_tree.specs.declared.token.Place.{Place}
use Rattle.java_tree.specs.declared.token.Token.{Token}
use Rattle.java_tree.specs.declared.tree.Class.{Class}
use Rattle.java_lexer.specs.declared.lexer.LexError.{LexError}
use Rattle.java_lexer.specs.declared.lexer.LexError.TheVariants as error
use Rattle.java_lexer.specs.Places.{first_place}
use Rattle.java_lexer.specs.Spelling.{Spells, Refuses as RefusesText}
use Rattle.java_parser.specs.declared.error.ParseError.{ParseError}
use Rattle.java_parser.specs.declared.error.ParseError.TheVariants as parse_error
use Rattle.java_types.specs.declared.error.TypeError.TheVariants.{Rule}
use Rattle.java_types.specs.declared.checking.Refused.{Refused}
use Rattle.java_types.specs.Check.{findings_of, IsRefusal}
use Rattle.java_flow.specs.declared.finding.Finding.{Finding as FlowFinding}
use Rattle.java_flow.specs.Findings.{findings}
use Rattle.annotations.specs.declared.checking.Refused.{Refused as RefusedAnnotation}
use Rattle.sdg_top.specs.declared.accept.Phase.TheVariants as phase
use Rattle.sdg_top.specs.declared.accept.Judgement.{Judgement}
use Rattle.sdg_top.specs.declared.accept.Judgement.TheVariants.{Takes, Refuses}
use Rattle.sdg_top.specs.Commands.{Text}
use Rattle.sdg_top.specs.Accepted.{IsClassText, IsOnlyClass, IsAccepted, Accepts, IsRefused, AtByte, AtNumber, AtComment, NoSyntax, AtType, AtUnreachable, AtMissingReturn, AtUnassigned, AtAnnotation, annotated_of, annotation_findings}
use Rattle.sdg_top.specs.Acceptance.{Judges, IsTaken, RefusesAt, HasTokens, JudgesTree, JudgesOnly, JudgesTokens}

-- ---- a tree and its tokens

pub tree_judged : (tokens : List Token) (tree : Class) (j : Judgement) → HasTokens tokens tree → ((other : Class) → HasTokens tokens other → other ≡ tree) → JudgesTree tree j → JudgesTokens tokens j
tree_judged tokens tree (Takes a) has only h = record { tree = tree; has = has; only = only; judges = h }
tree_judged tokens tree (Refuses (phase.Type rule) at) has only h = record { tree = tree; has = has; only = only; judges = h }
tree_judged tokens tree (Refuses phase.Unreachable at) has only h = record { tree = tree; has = has; only = only; judges = h }
tree_judged tokens tree (Refuses phase.MissingReturn at) has only h = record { tree = tree; has = has; only = only; judges = h }
tree_judged tokens tree (Refuses phase.Unassigned at) has only h = record { tree = tree; has = has; only = only; judges = h }
tree_judged tokens tree (Refuses (phase.Annotation rule) at) has only h = record { tree = tree; has = has; only = only; judges = h }
tree_judged tokens tree (Refuses phase.Byte at) has only h = absurd h
tree_judged tokens tree (Refuses phase.Number at) has only h = absurd h
tree_judged tokens tree (Refuses phase.Comment at) has only h = absurd h
tree_judged tokens tree (Refuses phase.Syntax at) has only h = absurd h

-- ---- tokens and their text

-- no other tokens spell the text
abbrev pub AreOnlyTokens : Text → List Token → Type 0
AreOnlyTokens text tokens = (others : List Token) (end : Place) → Spells first_place others end text → others ≡ tokens

class_text : (text : Text) (tokens : List Token) (end : Place) (class : Class) → Spells first_place tokens end text → HasTokens tokens class → IsClassText text class
class_text text tokens end class spelled h = record { tokens = tokens; end = end; spelled = spelled; are_tokens = h.are_tokens; placed = h.placed; levels = h.levels }

has_tokens : (text : Text) (tokens : List Token) (class : Class) → AreOnlyTokens text tokens → IsClassText text class → HasTokens tokens class
has_tokens text tokens class only h = record { are_tokens = h.are_tokens ∙ only h.tokens h.end h.spelled; placed = h.placed; levels = h.levels }

at_first : (text : Text) (name : Text) (at : Place) → at ≡ first_place → IsRefused text name first_place → IsRefused text name at
at_first text name at e r = let P : Place → Type 0 = IsRefused text name in subst P (sym e) r

-- the tree of the tokens is the class of the text
only_text : (text : Text) (tokens : List Token) (end : Place) (j : Judgement) → Spells first_place tokens end text → AreOnlyTokens text tokens → (h : JudgesOnly tokens j) → IsClassText text h.tree × IsOnlyClass text h.tree
only_text text tokens end j spelled only h = (class_text text tokens end h.tree spelled h.has, λ other t. h.only other (has_tokens text tokens other only t))

pub tokens_judged : (text : Text) (tokens : List Token) (end : Place) (j : Judgement) → Spells first_place tokens end text → AreOnlyTokens text tokens → JudgesTokens tokens j → Judges text j
tokens_judged text tokens end (Takes a) spelled only h =
    let is = only_text text tokens end (Takes a) spelled only h in
    (h.tree, record { is_class = is.0; only = is.1; accepted = h.judges.0 }, h.judges.1)
tokens_judged text tokens end (Refuses (phase.Type rule) at) spelled only h =
    let is = only_text text tokens end (Refuses (phase.Type rule) at) spelled only h in AtType h.tree rule at is.0 is.1 h.judges
tokens_judged text tokens end (Refuses phase.Unreachable at) spelled only h =
    let is = only_text text tokens end (Refuses phase.Unreachable at) spelled only h in AtUnreachable h.tree at is.0 is.1 h.judges.0 h.judges.1
tokens_judged text tokens end (Refuses phase.MissingReturn at) spelled only h =
    let is = only_text text tokens end (Refuses phase.MissingReturn at) spelled only h in AtMissingReturn h.tree at is.0 is.1 h.judges.0 h.judges.1
tokens_judged text tokens end (Refuses phase.Unassigned at) spelled only h =
    let is = only_text text tokens end (Refuses phase.Unassigned at) spelled only h in AtUnassigned h.tree at is.0 is.1 h.judges.0 h.judges.1
tokens_judged text tokens end (Refuses (phase.Annotation rule) at) spelled only h =
    let is = only_text text tokens end (Refuses (phase.Annotation rule) at) spelled only h in AtAnnotation h.tree rule at is.0 is.1 h.judges.0 h.judges.1 h.judges.2
tokens_judged text tokens end (Refuses phase.Syntax at) spelled only (is, none) =
    at_first text (codes "syntax") at is (NoSyntax tokens end spelled (λ class h. none class (has_tokens text tokens class only h)))
tokens_judged text tokens end (Refuses phase.Byte at) spelled only h = absurd h.judges
tokens_judged text tokens end (Refuses phase.Number at) spelled only h = absurd h.judges
tokens_judged text tokens end (Refuses phase.Comment at) spelled only h = absurd h.judges

-- an accepted class has nothing to be refused for
no_finding : (tree : Class) (rule : ℕ) (at : Place) → findings_of tree ≡ [] → IsRefusal tree (Rule rule at) → ⊥
no_finding tree rule at none refused =
    let P : List Refused → Type 0 = λ all. Contains all (record { place = at; rule = rule }) in let e : P [] = subst P none refused.is_one in omega (arith, e.1)

no_flow : (tree : Class) (f : FlowFinding) → findings tree ≡ [] → Contains (findings tree) f → ⊥
no_flow tree f none has = let P : List FlowFinding → Type 0 = λ all. Contains all f in let e : P [] = subst P none has in omega (arith, e.1)

no_annotation : (tree : Class) (f : RefusedAnnotation) → annotation_findings tree ≡ [] → Contains (annotation_findings tree) f → ⊥
no_annotation tree f none has = let P : List RefusedAnnotation → Type 0 = λ all. Contains all f in let e : P [] = subst P none has in omega (arith, e.1)

-- the text of an accepted class is taken
pub tokens_taken : (text : Text) (tokens : List Token) (class : Class) (j : Judgement) → AreOnlyTokens text tokens → IsClassText text class → IsAccepted class → JudgesTokens tokens j → IsTaken class j
tokens_taken text tokens class (Takes a) only is accepted h =
    let P : Class → Type 0 = λ c. a ≡ annotated_of c in subst P (sym (h.only class (has_tokens text tokens class only is))) h.judges.1
tokens_taken text tokens class (Refuses (phase.Type rule) at) only is accepted h =
    let same = subst IsAccepted (h.only class (has_tokens text tokens class only is)) accepted in no_finding h.tree rule at same.typed h.judges
tokens_taken text tokens class (Refuses phase.Unreachable at) only is accepted h =
    let same = subst IsAccepted (h.only class (has_tokens text tokens class only is)) accepted in no_flow h.tree _ same.flows h.judges.1.is_one
tokens_taken text tokens class (Refuses phase.MissingReturn at) only is accepted h =
    let same = subst IsAccepted (h.only class (has_tokens text tokens class only is)) accepted in no_flow h.tree _ same.flows h.judges.1.is_one
tokens_taken text tokens class (Refuses phase.Unassigned at) only is accepted h =
    let same = subst IsAccepted (h.only class (has_tokens text tokens class only is)) accepted in no_flow h.tree _ same.flows h.judges.1.is_one
tokens_taken text tokens class (Refuses (phase.Annotation rule) at) only is accepted h =
    let same = subst IsAccepted (h.only class (has_tokens text tokens class only is)) accepted in no_annotation h.tree _ same.annotated h.judges.2.is_one
tokens_taken text tokens class (Refuses phase.Syntax at) only is accepted (e, none) = none class (has_tokens text tokens class only is)
tokens_taken text tokens class (Refuses phase.Byte at) only is accepted h = absurd h.judges
tokens_taken text tokens class (Refuses phase.Number at) only is accepted h = absurd h.judges
tokens_taken text tokens class (Refuses phase.Comment at) only is accepted h = absurd h.judges

-- ---- errors

pub error_judged : (text : Text) (e : LexError) (j : Judgement) → (e ≡ error.Memory) ⊎ RefusesText first_place text e → RefusesAt e j → Judges text j
error_judged text e j (inl memory) h = let P : LexError → Type 0 = λ x. RefusesAt x j in absurd (subst P memory h)
error_judged text (error.BadByte at) j (inr r) h = let P : Judgement → Type 0 = Judges text in subst P (sym h) (AtByte at r)
error_judged text (error.BadNumber at) j (inr r) h = let P : Judgement → Type 0 = Judges text in subst P (sym h) (AtNumber at r)
error_judged text (error.OpenComment at) j (inr r) h = let P : Judgement → Type 0 = Judges text in subst P (sym h) (AtComment at r)
error_judged text error.Memory j (inr r) h = absurd h

-- where an error is want of memory alone, it is no refusal
pub no_refusal : (e : LexError) (j : Judgement) → e ≡ error.Memory → RefusesAt e j → ⊥
no_refusal e j memory h = let P : LexError → Type 0 = λ x. RefusesAt x j in subst P memory h

-- ---- what the parser answered

-- the tree that was answered is the only one
pub only_tree : (tree other : Class) → (◌≡◌ {A = Result Class ParseError} (Ok tree) (Ok other)) ⊎ (◌≡◌ {A = Result Class ParseError} (Ok tree) (Err parse_error.Memory)) → other ≡ tree
only_tree tree other (inl e) = let same : tree ≡ other = cc in sym same
only_tree tree other (inr e) = absurd cc

-- there is no tree where none was answered
pub no_tree : (e : ParseError) (at : Place) (class : Class) → e ≡ parse_error.NoClass at → (◌≡◌ {A = Result Class ParseError} (Err e) (Ok class)) ⊎ (◌≡◌ {A = Result Class ParseError} (Err e) (Err parse_error.Memory)) → ⊥
no_tree e at class is (inl h) = absurd cc
no_tree e at class is (inr h) = absurd cc
