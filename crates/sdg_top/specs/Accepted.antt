-- Which texts are accepted, why a class is refused, and the report that the calls of an accepted class are due.
use Rattle.std.specs.Prelude.{◌≡◌, ℕ, ◌≤◌, List, [], ◌++◌, codes, decimal}
use Rattle.sdg_base.specs.declared.call.Call.{Call}
use Rattle.java_tree.specs.declared.token.Place.{Place}
use Rattle.java_tree.specs.declared.token.Token.{Token}
use Rattle.java_tree.specs.declared.tree.Class.{Class}
use Rattle.java_tree.specs.declared.types.Typed.{Typed}
use Rattle.java_tree.specs.Tokens.{tokens_of}
use Rattle.java_tree.specs.Placed.{IsWellPlaced}
use Rattle.java_tree.specs.Heights.{height, max_levels}
use Rattle.java_lexer.specs.declared.lexer.LexError.TheVariants.{BadByte, BadNumber, OpenComment}
use Rattle.java_lexer.specs.Places.{first_place}
use Rattle.java_lexer.specs.Spelling.{Spells, Refuses}
use Rattle.java_types.specs.declared.error.TypeError.TheVariants.{Rule}
use Rattle.java_types.specs.Check.{findings_of, types_of, IsRefusal}
use Rattle.java_flow.specs.declared.error.FlowError.TheVariants.{Unreachable, MissingReturn, Unassigned}
use Rattle.java_flow.specs.Findings.{findings, Refuses as RefusesFlow}
use Rattle.annotations.specs.declared.checking.Refused.{Refused as RefusedAnnotation}
use Rattle.annotations.specs.declared.error.AnnotError.TheVariants.{Rule as AnnotationRule}
use Rattle.annotations.specs.declared.class.Annotated.{Annotated}
use Rattle.annotations.specs.Kinds.{kinds_of}
use Rattle.annotations.specs.Check.{findings_of as findings_of_annotations, Refuses as RefusesAnnotation, sites_of, first_partial}
use Rattle.access_blocks.specs.declared.body.Program.{Program}
use Rattle.access_blocks.specs.Programs.{program_of as program_of_annotated}
use Rattle.early_forms.specs.declared.straight.StraightClass.{StraightClass}
use Rattle.early_forms.specs.Trees.{class_tree}
use Rattle.early_source.specs.Members.{fields}
use Rattle.early_source.specs.Serial.{IsSerial}
use Rattle.placement.specs.declared.event.Header.{Header}
use Rattle.placement.specs.declared.event.Schedule.{Schedule}
use Rattle.early_cutter.specs.Runs.{setup_of, ArePlainResults, ArePlainInOrder}
use Rattle.cluster.specs.History.{steps_of}
use Rattle.cluster.specs.World.{World, first_world, words_of, world_of, results_of, kept}
use Rattle.agreement.specs.Results.{RunAgrees}
use Rattle.agreement.specs.Again.{RunsAgain}
use Rattle.agreement.specs.Kept.{KeepsItsSteps}
use Rattle.sdg_top.specs.Commands.{Text}
use Rattle.sdg_top.specs.Report.{report_text}

-- ---- classes

-- the text spells the tokens of the class, whose parts stand where the grammar has them, within the levels of nesting
pub record IsClassText (text : Text) (class : Class) : Type 0 where
  pub tokens : List Token
  pub end : Place
  pub spelled : Spells first_place tokens end text
  pub are_tokens : tokens_of class ≡ tokens
  pub placed : IsWellPlaced class
  pub levels : height class ≤ max_levels

-- each class that has this text is this one
abbrev pub IsOnlyClass : Text → Class → Type 0
IsOnlyClass text class = (other : Class) → IsClassText text other → other ≡ class

abbrev pub typed_of : Class → Typed
typed_of class = record { class = class; types = types_of class }

-- each rule on annotations that the class breaks, with its types
abbrev pub annotation_findings : Class → List RefusedAnnotation
annotation_findings class = findings_of_annotations (typed_of class)

-- no rule on types has a finding, and none on the flow of statements and on annotations
pub record IsAccepted (class : Class) : Type 0 where
  pub typed : findings_of class ≡ []
  pub flows : findings class ≡ []
  pub annotated : annotation_findings class ≡ []

-- a rule on types by its number
abbrev pub type_phase : ℕ → Text
type_phase rule = codes "type " ++ decimal rule

abbrev pub annotation_phase : ℕ → Text
annotation_phase rule = codes "annotation " ++ decimal rule

-- the class, and no other, has this text, and it breaks no rule
pub record Accepts (text : Text) (class : Class) : Type 0 where
  pub is_class : IsClassText text class
  pub only : IsOnlyClass text class
  pub accepted : IsAccepted class

-- the class with its types, the kinds of its fields and its sites
abbrev pub annotated_of : Class → Annotated
annotated_of class = record { typed = typed_of class; kinds = kinds_of class; sites = sites_of (typed_of class); partial = first_partial (typed_of class) }

-- its methods and fields, resolved
abbrev pub program_of : Class → Program
program_of class = program_of_annotated (annotated_of class)

-- Why a class text is refused, whatever the command: the first phase that finds it wrong, and where. Syntax names the first place of a text.
pub data IsRefused (text : Text) : Text → Place → Type 0 where
  -- a byte with which nothing begins
  AtByte : (at : Place) → Refuses first_place text (BadByte at) → IsRefused text (codes "byte") at
  -- a digit whose run is no number
  AtNumber : (at : Place) → Refuses first_place text (BadNumber at) → IsRefused text (codes "number") at
  -- a comment without end
  AtComment : (at : Place) → Refuses first_place text (OpenComment at) → IsRefused text (codes "comment") at
  -- tokens that are no class
  NoSyntax : (tokens : List Token) (end : Place) → Spells first_place tokens end text → ((class : Class) → IsClassText text class → ⊥) → IsRefused text (codes "syntax") first_place
  -- a class, and the only one with this text, that breaks this rule on types first
  AtType : (class : Class) (rule : ℕ) (at : Place) → IsClassText text class → IsOnlyClass text class → IsRefusal class (Rule rule at) → IsRefused text (type_phase rule) at
  -- one that breaks no rule on types, and in which a statement can't be reached, a value isn't returned, or a local isn't
  -- assigned, which comes first
  AtUnreachable : (class : Class) (at : Place) → IsClassText text class → IsOnlyClass text class → findings_of class ≡ [] → RefusesFlow (findings class) (Unreachable at) → IsRefused text (codes "flow 1") at
  AtMissingReturn : (class : Class) (at : Place) → IsClassText text class → IsOnlyClass text class → findings_of class ≡ [] → RefusesFlow (findings class) (MissingReturn at) → IsRefused text (codes "flow 2") at
  AtUnassigned : (class : Class) (at : Place) → IsClassText text class → IsOnlyClass text class → findings_of class ≡ [] → RefusesFlow (findings class) (Unassigned at) → IsRefused text (codes "flow 3") at
  -- one that breaks no rule on types and on the flow of statements, and this rule on annotations first
  AtAnnotation : (class : Class) (rule : ℕ) (at : Place) → IsClassText text class → IsOnlyClass text class → findings_of class ≡ [] → findings class ≡ [] → RefusesAnnotation (annotation_findings class) (AnnotationRule rule at)
      → IsRefused text (annotation_phase rule) at

-- ---- the report

-- without events
abbrev pub alone : StraightClass → List Call → Header → World
alone class calls header = world_of (setup_of class calls header) []

-- Without events calls run one after the other, and have the results of plain Java, in their order.
pub record RunsInOrder (class : StraightClass) (calls : List Call) (header : Header) : Type 0 where
  pub serial : IsSerial (steps_of (alone class calls header).hist)
  pub plain : ArePlainInOrder (class_tree class) calls (results_of (setup_of class calls header) (alone class calls header))

-- The report of calls of a class under a schedule: it is of the world that the schedule fixes. There each call has one result; the history is legal for the annotated source, whose
-- outcomes the results are; where calls don't interleave they are those of plain Java; without events calls run one after the other; the history fixes the results; and an item is kept
-- for each of its steps.
pub record IsReport (class : StraightClass) (calls : List Call) (schedule : Schedule) (report : Text) : Type 0 where
  pub agrees : RunAgrees (class_tree class) (setup_of class calls schedule.header) (world_of (setup_of class calls schedule.header) schedule.events)
  pub plain : IsSerial (steps_of (world_of (setup_of class calls schedule.header) schedule.events).hist)
      → ArePlainResults (class_tree class) calls (results_of (setup_of class calls schedule.header) (world_of (setup_of class calls schedule.header) schedule.events))
  pub in_order : schedule.events ≡ [] → RunsInOrder class calls schedule.header
  pub again : RunsAgain (setup_of class calls schedule.header) (world_of (setup_of class calls schedule.header) schedule.events)
  pub written :
      let s = setup_of class calls schedule.header in
      let w = world_of s schedule.events in
      report ≡ report_text schedule.header (fields (class_tree class)) (words_of s first_world schedule.events) [] (results_of s w) (steps_of w.hist) [] (kept s w)
  pub kept : KeepsItsSteps (setup_of class calls schedule.header) (world_of (setup_of class calls schedule.header) schedule.events)
