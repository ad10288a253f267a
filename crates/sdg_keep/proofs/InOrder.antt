-- laws on files read one after the other
use Rattle.std.proofs.Common.{◌≡◌, ℕ, ◌+◌, ◌<◌, List, [], ◌∷◌, ◌++◌, length, map, drop, get_or, Option, Ok, Err, refl, sym, ap, subst, ◌∙◌, append_assoc}
use Rattle.std.specs.Prelude.{IfSome}
use Rattle.std.proofs.lemmas.List.{append-nil, drop_more}
use Rattle.sdg_keep.specs.declared.asked.Asked.{Asked}
use Rattle.sdg_keep.specs.declared.read_call.ReadCall.{ReadCall}
use Rattle.sdg_keep.specs.declared.whole.ReadError.{ReadError}
use Rattle.sdg_keep.specs.declared.whole.ReadError.TheVariants as read_error
use Rattle.sdg_keep.specs.Writes.{Appends}
use Rattle.sdg_keep.specs.Readings.{ReadsFile, ReadsWhole}
use Rattle.sdg_keep.specs.Endings.{Text, file_asked, AllRead, CutShort, ending_at, WasRead, IsLong, AreRead, Nothing, First, ComesTo, ReadsOf, Whole, Fails, Exceeds, Within, Between, Told, HasFaults, Reads}
use Rattle.sdg_keep.specs.Faults.{Rises, HasCause}
use Rattle.sdg_keep.specs.Wholes.{fault_of}
use Rattle.sdg_keep.proofs.Written.{Appends-append, Appends-none}

-- files were read, and then more of them
pub AreRead-append : (content : Text → Option Text) (front back : List (Text × ℕ)) (calls more : List ReadCall) (texts others : List Text) → AreRead content front calls texts → AreRead content back more others → AreRead content (front ++ back) (calls ++ more) (texts ++ others)
AreRead-append content front back calls more texts others Nothing next = next
AreRead-append content front back calls more texts others (First name limit text mine rest calls' files texts' are ends was read) next =
    First name limit text mine (rest ++ more) (calls ++ more) (files ++ back) (texts' ++ others) (ap (λ w. w ++ more) are ∙ append_assoc mine rest more) ends was (AreRead-append content files back rest more texts' others read next)

-- the reads from one moment to another by which the first files were read, where these are left
pub record HasRead (content : Text → Option Text) (before now : Option (List ReadCall)) (files left : List (Text × ℕ)) (texts : List Text) : Type 0 where
  pub front : List (Text × ℕ)
  pub are : files ≡ front ++ left
  pub calls : List ReadCall
  pub made : Appends before now calls
  pub read : AreRead content front calls texts

-- no file was read yet
pub HasRead-start : (content : Text → Option Text) (before : Option (List ReadCall)) (files : List (Text × ℕ)) → HasRead content before before files files []
HasRead-start content before files = record { front = []; are = refl; calls = []; made = Appends-none before; read = Nothing }

-- the first of those left
pub HasRead-left : (content : Text → Option Text) (before now : Option (List ReadCall)) (files : List (Text × ℕ)) (asked : List Asked) (i : ℕ) (item : Asked) (texts : List Text)
    → HasRead content before now files (map file_asked (drop i asked)) texts → i < length asked → get_or asked i item ≡ item → HasRead content before now files (file_asked item ∷ map file_asked (drop (i + 1) asked)) texts
HasRead-left content before now files asked i item texts so more is =
    let split : drop i asked ≡ item ∷ drop (i + 1) asked = drop_more asked i item more ∙ ap (λ x. x ∷ drop (i + 1) asked) is in
    subst (λ (left : List (Text × ℕ)). HasRead content before now files left texts) (ap (map file_asked) split) so

-- the next one was read too
pub HasRead-next : (content : Text → Option Text) (before between now : Option (List ReadCall)) (files left : List (Text × ℕ)) (texts : List Text) (name : Text) (limit : ℕ) (text : Text)
    → HasRead content before between files ((name, limit) ∷ left) texts → ReadsWhole between now name limit (Ok text) → WasRead (content name) limit text → HasRead content before now files left (texts ++ text ∷ [])
HasRead-next content before between now files left texts name limit text so (mine, made, ends) was = record {
  front = so.front ++ (name, limit) ∷ [];
  are = so.are ∙ sym (append_assoc so.front ((name, limit) ∷ []) left);
  calls = so.calls ++ mine;
  made = Appends-append before between now so.calls mine so.made made;
  read = AreRead-append content so.front ((name, limit) ∷ []) so.calls mine texts (text ∷ []) so.read (First name limit text mine [] mine [] [] (sym (append-nil mine)) ends was Nothing);
}

-- the next one was not read
pub ReadsOf-not : (content : Text → Option Text) (before between now : Option (List ReadCall)) (files left : List (Text × ℕ)) (texts : List Text) (name : Text) (limit : ℕ) (e : ReadError)
    → HasRead content before between files ((name, limit) ∷ left) texts → ReadsWhole between now name limit (Err e) → (e ≡ read_error.TooLong → IsLong (content name) limit)
    → (calls : List ReadCall) × Appends before now calls × ReadsOf content files calls (ending_at e name)
ReadsOf-not content before between now files left texts name limit e so (mine, made, reads) long =
    (so.calls ++ mine, Appends-append before between now so.calls mine so.made made, ended e reads long)
  where
    comes : ComesTo content files (so.calls ++ mine) name limit mine
    comes = record { before = so.front; after = left; are = so.are; earlier = so.calls; calls_are = refl; texts = texts; read = so.read }

    ended : (e : ReadError) → ReadsFile name limit mine (Err e) → (e ≡ read_error.TooLong → IsLong (content name) limit) → ReadsOf content files (so.calls ++ mine) (ending_at e name)
    ended read_error.Failed r l = Fails name limit r.0 mine comes r.1
    ended read_error.TooLong r l = Exceeds name limit mine comes r (l refl)
    ended read_error.Memory r l = Within name limit r.0 mine comes r.1

-- ---- the same from one moment to another, over what the files told

module _ (content : Text → Option Text) (faults later : ℕ) (before now : Option (List ReadCall)) (files : List (Text × ℕ)) where
  abbrev pub files_told : Told
  files_told = record { content = content; faults_before = faults; faults_after = later; reads_before = before; reads_after = now }

  -- no file is left
  pub Reads-all : (left : List (Text × ℕ)) (texts : List Text) → HasRead content before now files left texts → left ≡ [] → later ≡ faults → Reads files_told files (AllRead texts)
  Reads-all left texts so none stays =
      let all : so.front ≡ files = sym (append-nil so.front) ∙ sym (ap (λ w. so.front ++ w) none) ∙ sym so.are in
      record { calls = so.calls; made = so.made; are = Whole texts (subst (λ (w : List (Text × ℕ)). AreRead content w so.calls texts) all so.read); faults = stays }

  -- there was no memory between two files
  pub Reads-between : (left : List (Text × ℕ)) (texts : List Text) → HasRead content before now files left texts → later ≡ faults → Reads files_told files CutShort
  Reads-between left texts so stays = record { calls = so.calls; made = so.made; are = Between so.front left texts so.are so.read; faults = stays }

  -- the next file was not read
  pub Reads-not : (mid : ℕ) (between : Option (List ReadCall)) (left : List (Text × ℕ)) (texts : List Text) (name : Text) (limit : ℕ) (told_now : Option Text) (e : ReadError)
      → HasRead content before between files ((name, limit) ∷ left) texts → ReadsWhole between now name limit (Err e) → told_now ≡ content name → (e ≡ read_error.TooLong → IfSome told_now (λ file. limit < length file))
      → mid ≡ faults → HasCause mid later (fault_of {T = Text} (Err e)) → Reads files_told files (ending_at e name)
  Reads-not mid between left texts name limit told_now e so reads same long stays cause =
      let ended = ReadsOf-not content before between now files left texts name limit e so reads (λ is. subst (λ (o : Option Text). IsLong o limit) same (long is)) in
      record { calls = ended.0; made = ended.1; are = ended.2; faults = faulty e cause }
    where
      faulty : (e : ReadError) → HasCause mid later (fault_of {T = Text} (Err e)) → HasFaults faults later (ending_at e name)
      faulty read_error.Failed cause = subst (λ (n : ℕ). Rises n later) stays (cause.failed refl)
      faulty read_error.TooLong cause = cause.ok ∙ stays
      faulty read_error.Memory cause = cause.memory refl ∙ stays
