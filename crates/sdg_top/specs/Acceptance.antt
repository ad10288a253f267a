-- What the judgement of a class text says.
use Rattle.std.specs.Prelude.{◌≡◌, ◌≤◌, List, [], codes}
use Rattle.java_tree.specs.declared.token.Token.{Token}
use Rattle.java_tree.specs.declared.tree.Class.{Class}
use Rattle.java_tree.specs.Tokens.{tokens_of}
use Rattle.java_tree.specs.Placed.{IsWellPlaced}
use Rattle.java_tree.specs.Heights.{height, max_levels}
use Rattle.java_lexer.specs.Places.{first_place}
use Rattle.java_lexer.specs.declared.lexer.LexError.{LexError}
use Rattle.java_lexer.specs.declared.lexer.LexError.TheVariants as error
use Rattle.java_types.specs.declared.error.TypeError.TheVariants.{Rule}
use Rattle.java_types.specs.Check.{findings_of, IsRefusal}
use Rattle.java_flow.specs.declared.error.FlowError.TheVariants.{Unreachable, MissingReturn, Unassigned}
use Rattle.java_flow.specs.Findings.{findings, Refuses as RefusesFlow}
use Rattle.annotations.specs.declared.error.AnnotError.TheVariants.{Rule as AnnotationRule}
use Rattle.annotations.specs.Check.{Refuses as RefusesAnnotation}
use Rattle.sdg_top.specs.declared.accept.Phase.{Phase}
use Rattle.sdg_top.specs.declared.accept.Phase.TheVariants as phase
use Rattle.sdg_top.specs.declared.accept.Judgement.{Judgement}
use Rattle.sdg_top.specs.declared.accept.Judgement.TheVariants.{Takes, Refuses}
use Rattle.sdg_top.specs.Commands.{Text}
use Rattle.sdg_top.specs.Accepted.{Accepts, IsAccepted, IsRefused, annotated_of, type_phase, annotation_phase, annotation_findings}

abbrev pub phase_text : Phase → Text
phase_text phase.Byte = codes "byte"
phase_text phase.Number = codes "number"
phase_text phase.Comment = codes "comment"
phase_text phase.Syntax = codes "syntax"
phase_text (phase.Type rule) = type_phase rule
phase_text phase.Unreachable = codes "flow 1"
phase_text phase.MissingReturn = codes "flow 2"
phase_text phase.Unassigned = codes "flow 3"
phase_text (phase.Annotation rule) = annotation_phase rule

-- the class is the one that a text writes, accepted; or the text is refused
abbrev pub Judges : Text → Judgement → Type 0
Judges text (Takes a) = (class : Class) × Accepts text class × (a ≡ annotated_of class)
Judges text (Refuses phase at) = IsRefused text (phase_text phase) at

-- the text is taken as this class
abbrev pub IsTaken : Class → Judgement → Type 0
IsTaken class (Takes a) = a ≡ annotated_of class
IsTaken class (Refuses phase at) = ⊥

-- the refusal that an error of the lexer is
abbrev pub RefusesAt : LexError → Judgement → Type 0
RefusesAt (error.BadByte at) j = j ≡ Refuses phase.Byte at
RefusesAt (error.BadNumber at) j = j ≡ Refuses phase.Number at
RefusesAt (error.OpenComment at) j = j ≡ Refuses phase.Comment at
RefusesAt error.Memory j = ⊥

-- ---- the same of tokens

-- the class has these tokens
pub record HasTokens (tokens : List Token) (class : Class) : Type 0 where
  pub are_tokens : tokens_of class ≡ tokens
  pub placed : IsWellPlaced class
  pub levels : height class ≤ max_levels

-- ---- the same of a tree

abbrev pub JudgesTree : Class → Judgement → Type 0
JudgesTree tree (Takes a) = IsAccepted tree × (a ≡ annotated_of tree)
JudgesTree tree (Refuses (phase.Type rule) at) = IsRefusal tree (Rule rule at)
JudgesTree tree (Refuses phase.Unreachable at) = (findings_of tree ≡ []) × RefusesFlow (findings tree) (Unreachable at)
JudgesTree tree (Refuses phase.MissingReturn at) = (findings_of tree ≡ []) × RefusesFlow (findings tree) (MissingReturn at)
JudgesTree tree (Refuses phase.Unassigned at) = (findings_of tree ≡ []) × RefusesFlow (findings tree) (Unassigned at)
JudgesTree tree (Refuses (phase.Annotation rule) at) = (findings_of tree ≡ []) × (findings tree ≡ []) × RefusesAnnotation (annotation_findings tree) (AnnotationRule rule at)
JudgesTree tree (Refuses _ at) = ⊥

-- there is one tree with these tokens, and it is judged; or there is none
pub record JudgesOnly (tokens : List Token) (j : Judgement) : Type 0 where
  pub tree : Class
  pub has : HasTokens tokens tree
  pub only : (other : Class) → HasTokens tokens other → other ≡ tree
  pub judges : JudgesTree tree j

abbrev pub JudgesTokens : List Token → Judgement → Type 0
JudgesTokens tokens (Refuses phase.Syntax at) = (at ≡ first_place) × ((class : Class) → HasTokens tokens class → ⊥)
JudgesTokens tokens j = JudgesOnly tokens j
