-- What reading the files makes due, and what a due answer says of their faults.
use Rattle.std.proofs.Common.{◌≡◌, ◌≢◌, ℕ, ◌+◌, ◌-◌, ◌^◌, ◌<◌, ◌≤◌, List, [], ◌∷◌, ◌++◌, take, drop, length, min, Option, Some, None, refl, sym, ap, subst, ◌∙◌, inl, inr, arith}
use Rattle.std.specs.Prelude.{◌⊎◌, IfSome, IfOk, Result}
use Rattle.std.specs.declared.alloc.AllocError.{AllocError}
use Rattle.std.proofs.lemmas.Result.{IfOk-weaker}
use Rattle.std.proofs.lemmas.List.{take-append-drop}
use Rattle.sdg_base.specs.declared.call.Call.{Call}
use Rattle.java_tree.specs.declared.tree.Class.{Class}
use Rattle.access_blocks.specs.declared.body.Program.{Program}
use Rattle.run_text.specs.declared.field.Field.{Field}
use Rattle.sdg_top.specs.Accepted.{program_of}
use Rattle.sdg_top.specs.Entrances.{fields_of}
use Rattle.early_forms.specs.declared.straight.StraightClass.{StraightClass}
use Rattle.sdg_keep.specs.declared.read_call.ReadCall.{ReadCall}
use Rattle.sdg_keep.specs.Faults.{Rises}
use Rattle.sdg_keep.specs.Writes.{AppendsPrefix}
use Rattle.sdg_keep.specs.Endings.{Ending, AllRead, Unreadable, TooLong, CutShort, IsLong, AreRead, Nothing, First, ReadsOf, Whole, Exceeds, Between, Told, Reads}
use Rattle.sdg_keep.proofs.Written.{Appends-none}
use Rattle.sdg_top.specs.declared.answer.Answer.{Answer}
use Rattle.sdg_top.specs.declared.status.Status.{Status}
use Rattle.sdg_top.specs.declared.status.Status.TheVariants as status
use Rattle.sdg_top.specs.Answers.{unreadable_line, too_long_line}
use Rattle.sdg_top.specs.Commands.{Text, Request, Run, Plain, Replay, Graph, Ask, AreAlike, BothRun, BothRunScheduled, BothPlain, BothReplay, BothGraph, files_of, texts_of}
use Rattle.sdg_top.specs.Due.{DueForSchedule, RefusesSchedule, ReportedSchedule, ReportedDefault, DueForRun, RefusesCalls, TakesCalls, DueForPlain, RefusesPlainCalls, RunsPlain, DueForTexts, RefusesClass, RefusesForm, RunsForm, RefusesPartial, RunsWhole, RunsAlong, ShowsGraph, DueForHistory, RefusesHistory, RunsHistory, DueForReplay, RefusesReplayCalls, TakesReplayCalls, AskFor, Due, NoCommand, UnreadableFile, LongFile, RequestAnswers, AreTold, NoFault, IsAnswer, WritesPrefix}
use Rattle.sdg_top.specs.Read.{SaysWhy, NoRead, NoRoom, AreTexts}

due_as : (words : List Text) (files : Told) (s s' : Status) (t t' : Text) → s' ≡ s → t' ≡ t → Due words files s t → Due words files s' t'
due_as words files s s' t t' p q d = subst (λ (x : Status). Due words files x t') (sym p) (subst (λ (y : Text). Due words files s y) (sym q) d)

-- the same files by another list
pub reads_as : (files : Told) (asked others : List (Text × ℕ)) (ending : Ending) → asked ≡ others → Reads files asked ending → Reads files others ending
reads_as files asked others ending same reads = subst (λ (w : List (Text × ℕ)). Reads files w ending) same reads

-- why files were not read is the answer that is due
pub due_unread : (words : List Text) (files : Told) (asked : List (Text × ℕ)) (ending : Ending) (a : Answer) → AskFor words asked → Reads files asked ending → SaysWhy a ending → Due words files a.status a.text
due_unread words files asked ending a ask reads (NoRead name s t) = due_as words files status.Read a.status (unreadable_line name) a.text s t (UnreadableFile asked name ask reads)
due_unread words files asked ending a ask reads (NoRoom name s t) = due_as words files status.TooLong a.status (too_long_line name) a.text s t (LongFile asked name ask reads)

-- nothing was read, of files that a call has left as they were
module _ (content : Text → Option Text) (faults : ℕ) (reads : Option (List ReadCall)) where
  abbrev pub left_alone : Told
  left_alone = record { content = content; faults_before = faults; faults_after = faults; reads_before = reads; reads_after = reads }

  pub reads_none : Reads left_alone [] (AllRead [])
  reads_none = record { calls = []; made = Appends-none reads; are = Whole [] Nothing; faults = refl }

  pub reads_cut : (files : List (Text × ℕ)) → Reads left_alone files CutShort
  reads_cut files = record { calls = []; made = Appends-none reads; are = Between [] files [] refl Nothing; faults = refl }

-- ---- the texts of a command

-- the files that were read have the texts of the command
pub files_read : (content : Text → Option Text) (names : Request) (reads : List ReadCall) (texts : List Text) → AreRead content (files_of names) reads texts → AreTexts names texts
files_read content (Run class calls None) reads texts (First n l text m r c f ts are ends was (First n2 l2 text2 m2 r2 c2 f2 ts2 are2 ends2 was2 Nothing)) =
    record { of = Run text text2 None; alike = BothRun class calls text text2; are = refl; small = (was.within, (was2.within, tt)) }
files_read content (Run class calls (Some schedule)) reads texts (First n l text m r c f ts are ends was (First n2 l2 text2 m2 r2 c2 f2 ts2 are2 ends2 was2 (First n3 l3 text3 m3 r3 c3 f3 ts3 are3 ends3 was3 Nothing))) =
    record {
      of = Run text text2 (Some text3);
      alike = BothRunScheduled class calls schedule text text2 text3;
      are = refl;
      small = (was.within, (was2.within, (was3.within, tt)));
    }
files_read content (Plain class calls) reads texts (First n l text m r c f ts are ends was (First n2 l2 text2 m2 r2 c2 f2 ts2 are2 ends2 was2 Nothing)) =
    record { of = Plain text text2; alike = BothPlain class calls text text2; are = refl; small = (was.within, (was2.within, tt)) }
files_read content (Replay class calls history) reads texts (First n l text m r c f ts are ends was (First n2 l2 text2 m2 r2 c2 f2 ts2 are2 ends2 was2 (First n3 l3 text3 m3 r3 c3 f3 ts3 are3 ends3 was3 Nothing))) =
    record {
      of = Replay text text2 text3;
      alike = BothReplay class calls history text text2 text3;
      are = refl;
      small = (was.within, (was2.within, (was3.within, tt)));
    }
files_read content (Graph class) reads texts (First n l text m r c f ts are ends was Nothing) =
    record { of = Graph text; alike = BothGraph class text; are = refl; small = (was.within, tt) }

pub files_whole : (files : Told) (names : Request) (texts : List Text) → Reads files (files_of names) (AllRead texts) → AreTexts names texts
files_whole files names texts reads = whole (AllRead texts) refl reads.are
  where
    whole : (ending : Ending) → ending ≡ AllRead texts → ReadsOf files.content (files_of names) reads.calls ending → AreTexts names texts
    whole (AllRead texts') same (Whole ts read) = subst (λ (w : List Text). AreTexts names w) (let e : texts' ≡ texts = cc in e) (files_read files.content names reads.calls texts' read)
    whole (Unreadable name) same of = absurd cc
    whole (TooLong name) same of = absurd cc
    whole CutShort same of = absurd cc

-- Where the texts of a command were read, what they are due is due.
pub due_read : (words : List Text) (files : Told) (names : Request) (texts : List Text) (result : Result Answer AllocError) → Ask words names → Reads files (files_of names) (AllRead texts)
    → ((of : Request) → AreAlike names of → texts ≡ texts_of of → IfOk result (λ a. DueForTexts of a.status a.text)) → IfOk result (λ a. Due words files a.status a.text)
due_read words files names texts result ask reads given =
    let t = files_whole files names texts reads in
    IfOk-weaker result _ _ (λ a d. RequestAnswers names t.of a.text a.status ask t.alike (subst (λ (w : List Text). Reads files (files_of names) (AllRead w)) t.are reads) d)
    (given t.of t.alike t.are)

-- ---- what was read of files that tell their contents

-- texts that were read are those that are told
pub told_texts : (content : Text → Option Text) (files : List (Text × ℕ)) (reads : List ReadCall) (texts others : List Text) → AreTold content files texts → AreRead content files reads others → others ≡ texts
told_texts content files reads [] others all Nothing = refl
told_texts content files reads (text ∷ texts) others all Nothing = absurd all
told_texts content files reads [] others all (First name limit read mine rest calls files' texts' are ends was more) = absurd all
told_texts content files reads (text ∷ texts) others all (First name limit read mine rest calls files' texts' are ends was more) =
    let first : read ≡ text = subst (λ (o : Option Text). IfSome o (λ f. read ≡ f)) all.0 was.whole in
    let others_are : texts' ≡ texts = told_texts content files' rest texts texts' all.2 more in
    ap (λ x. x ∷ texts') first ∙ ap (λ xs. text ∷ xs) others_are

-- no file that is told within its limit is too long
pub told_short : (content : Text → Option Text) (before after : List (Text × ℕ)) (name : Text) (limit : ℕ) (texts : List Text) → AreTold content (before ++ (name, limit) ∷ after) texts → IsLong (content name) limit → ⊥
told_short content [] after name limit [] all long = all
told_short content [] after name limit (text ∷ texts) all long =
    let above : limit < length text = subst (λ (o : Option Text). IsLong o limit) all.0 long in
    let within : length text ≤ limit = all.1 in
    absurd (omega (arith, above, within))
told_short content (file ∷ before) after name limit [] all long = all
told_short content (file ∷ before) after name limit (text ∷ texts) all long = told_short content before after name limit texts all.2 long

no_rise : (before after : ℕ) → NoFault before after → Rises before after → ⊥
no_rise before after no_fault rises =
    let stays : after ≡ before = no_fault.stays in
    let below : before < 2 ^ 64 - 1 = no_fault.below_end in
    let rose : min (before + 1) (2 ^ 64 - 1) ≤ after = rises in
    absurd (omega (arith, stays, below, rose))

-- where they are told, and no fault rose, there is no answer that says why they were not read
pub told_unread : (files : Told) (asked : List (Text × ℕ)) (texts : List Text) (ending : Ending) (a : Answer) → AreTold files.content asked texts → NoFault files.faults_before files.faults_after → Reads files asked ending → SaysWhy a ending → ⊥
told_unread files asked texts ending a all no_fault reads (NoRead name s t) = no_rise files.faults_before files.faults_after no_fault reads.faults
told_unread files asked texts ending a all no_fault reads (NoRoom name s t) = long (TooLong name) refl reads.are
  where
    long : (e : Ending) → e ≡ TooLong name → ReadsOf files.content asked reads.calls e → ⊥
    long (AllRead ts) same of = absurd cc
    long (Unreadable n) same of = absurd cc
    long CutShort same of = absurd cc
    long (TooLong n) same (Exceeds n' limit mine comes goes_on is_long) =
        told_short files.content comes.before comes.after n limit texts (subst (λ (w : List (Text × ℕ)). AreTold files.content w texts) comes.are all) is_long

-- the texts that were read are those that are told
pub told_all : (files : Told) (asked : List (Text × ℕ)) (texts others : List Text) → AreTold files.content asked texts → Reads files asked (AllRead others) → others ≡ texts
told_all files asked texts others all reads = whole (AllRead others) refl reads.are
  where
    whole : (ending : Ending) → ending ≡ AllRead others → ReadsOf files.content asked reads.calls ending → others ≡ texts
    whole (AllRead others') same (Whole ts read) = (let e : others ≡ others' = cc in e) ∙ told_texts files.content asked reads.calls texts others' all read
    whole (Unreadable name) same of = absurd cc
    whole (TooLong name) same of = absurd cc
    whole CutShort same of = absurd cc

-- ---- which statuses are due

-- an answer to texts is one of three
abbrev IsOfTexts : Status → Type 0
IsOfTexts s = (s ≡ status.Class) ⊎ ((s ≡ status.Text) ⊎ (s ≡ status.Done))

schedule_answer : (class : StraightClass) (calls : List Call) (o : Option Text) (s : Status) (t : Text) → DueForSchedule class calls o s t → IsOfTexts s
schedule_answer class calls o s t (RefusesSchedule text line rule broken) = inr (inl refl)
schedule_answer class calls o s t (ReportedSchedule text schedule report is reports) = inr (inr refl)
schedule_answer class calls o s t (ReportedDefault report reports) = inr (inr refl)

run_answer : (class : StraightClass) (calls_text : Text) (o : Option Text) (s : Status) (t : Text) → DueForRun class calls_text o s t → IsOfTexts s
run_answer class calls_text o s t (RefusesCalls line rule broken) = inr (inl refl)
run_answer class calls_text o s t (TakesCalls calls answer text are d) = schedule_answer class calls o s t d

plain_answer : (class : Class) (calls_text : Text) (s : Status) (t : Text) → DueForPlain class calls_text s t → IsOfTexts s
plain_answer class calls_text s t (RefusesPlainCalls line rule broken) = inr (inl refl)
plain_answer class calls_text s t (RunsPlain calls are) = inr (inr refl)

history_answer : (program : Program) (calls : List Call) (fields : List Field) (history_text : Text) (s : Status) (t : Text) → DueForHistory program calls fields history_text s t → IsOfTexts s
history_answer program calls fields history_text s t (RefusesHistory line rule refused) = inr (inl refl)
history_answer program calls fields history_text s t (RunsHistory replayed is) = inr (inr refl)

replay_answer : (class : Class) (calls_text history_text : Text) (s : Status) (t : Text) → DueForReplay class calls_text history_text s t → IsOfTexts s
replay_answer class calls_text history_text s t (RefusesReplayCalls line rule broken) = inr (inl refl)
replay_answer class calls_text history_text s t (TakesReplayCalls calls answer text are d) = history_answer (program_of class) calls (fields_of class) history_text s t d

texts_answer : (texts : Request) (s : Status) (t : Text) → DueForTexts texts s t → IsOfTexts s
texts_answer texts s t (RefusesClass texts' phase at refused) = inl refl
texts_answer texts s t (RefusesForm class_text calls_text schedule_text class accepts none) = inl refl
texts_answer texts s t (RunsForm class_text calls_text schedule_text class answer text accepts proper d) = run_answer class calls_text schedule_text s t d
texts_answer texts s t (RefusesPartial class_text calls_text class at accepts is) = inl refl
texts_answer texts s t (RunsWhole class_text calls_text class answer text accepts whole d) = plain_answer class calls_text s t d
texts_answer texts s t (RunsAlong class_text calls_text history_text class answer text accepts d) = replay_answer class calls_text history_text s t d
texts_answer texts s t (ShowsGraph class_text class text accepts is) = inr (inr refl)

no_read : (s : Status) → IsOfTexts s → s ≡ status.Read → ⊥
no_read s (inl e) is = absurd cc
no_read s (inr (inl e)) is = absurd cc
no_read s (inr (inr e)) is = absurd cc

no_write : (s : Status) → IsOfTexts s → s ≡ status.Write → ⊥
no_write s (inl e) is = absurd cc
no_write s (inr (inl e)) is = absurd cc
no_write s (inr (inr e)) is = absurd cc

-- a file that could not be read is told only where the files' faults rose
pub read_rises : (words : List Text) (files : Told) (s : Status) (t : Text) → Due words files s t → s ≡ status.Read → Rises files.faults_before files.faults_after
read_rises words files s t (NoCommand none reads) is = absurd cc
read_rises words files s t (UnreadableFile asked name ask reads) is = reads.faults
read_rises words files s t (LongFile asked name ask reads) is = absurd cc
read_rises words files s t (RequestAnswers names texts text answer ask alike reads d) is = absurd (no_read s (texts_answer texts s t d) is)

-- where it is not told, no fault of the files rose
pub read_or_stays : (words : List Text) (files : Told) (s : Status) (t : Text) → Due words files s t → (s ≡ status.Read) ⊎ (files.faults_after ≡ files.faults_before)
read_or_stays words files s t (NoCommand none reads) = inr reads.faults
read_or_stays words files s t (UnreadableFile asked name ask reads) = inl refl
read_or_stays words files s t (LongFile asked name ask reads) = inr reads.faults
read_or_stays words files s t (RequestAnswers names texts text answer ask alike reads d) = inr reads.faults

pub unread : (words : List Text) (files : Told) (s : Status) (t : Text) → Due words files s t → files.faults_before < files.faults_after → s ≡ status.Read
unread words files s t d rose = either (read_or_stays words files s t d)
  where
    either : (s ≡ status.Read) ⊎ (files.faults_after ≡ files.faults_before) → s ≡ status.Read
    either (inl is) = is
    either (inr stays) = absurd (omega (arith, stays, rose))

-- a fault of the output is never due
pub not_write : (words : List Text) (files : Told) (s : Status) (t : Text) → Due words files s t → s ≢ status.Write
not_write words files s t (NoCommand none reads) is = absurd cc
not_write words files s t (UnreadableFile asked name ask reads) is = absurd cc
not_write words files s t (LongFile asked name ask reads) is = absurd cc
not_write words files s t (RequestAnswers names texts text answer ask alike reads d) is = no_write s (texts_answer texts s t d) is

-- a prefix of a due text was written
pub prefix_of_due : (words : List Text) (files : Told) (s : Status) (t : Text) (before after : Option Text) → Due words files s t → AppendsPrefix before after t → WritesPrefix words files before after
prefix_of_due words files s t before after d (n, le, a) = inr (s, t, take n t, drop n t, d, sym (take-append-drop n t), a)

pub given_read : (s : Status) → s ≡ status.Read → IsAnswer s
given_read s is = (λ e. absurd cc, λ e. absurd cc)
