-- laws on reads that go on with a file
use Rattle.std.proofs.Common.{◌≡◌, ℕ, ◌+◌, ◌<◌, ◌≤◌, List, [], ◌∷◌, ◌++◌, length, Option, Some, None, Ok, Err, refl, sym, subst}
use Rattle.sdg_base.specs.declared.store.KeepError.{KeepError}
use Rattle.sdg_base.specs.declared.store.KeepError.TheVariants as keep
use Rattle.sdg_keep.specs.declared.read_call.ReadCall.{ReadCall}
use Rattle.sdg_keep.specs.declared.whole.ReadError.TheVariants.{Memory}
use Rattle.sdg_keep.specs.Writes.{Appends}
use Rattle.sdg_keep.specs.Wholes.{read_error_of}
use Rattle.sdg_keep.specs.Readings.{GoesOn, Stands, Gives, EndsAt, NotesRead, ReadsOn, ReadsUpTo, ReadsWhole}
use Rattle.sdg_keep.proofs.Written.{Appends-append, Appends-none}

-- reads up to a byte and reads from there on
pub GoesOn-append : (name : List ℕ) (limit at between upto : ℕ) (front back : List ReadCall) → GoesOn name limit at front between → GoesOn name limit between back upto → GoesOn name limit at (front ++ back) upto
GoesOn-append name limit at between upto [] back (Stands at') more = more
GoesOn-append name limit at between upto (call ∷ calls) back (Gives at' n between' call' calls' begins gave some within rest) more =
    Gives at n upto call (calls ++ back) begins gave some within (GoesOn-append name limit (at + n) between upto calls back rest more)

-- nothing was read yet
pub ReadsUpTo-start : (before : Option (List ReadCall)) (name : List ℕ) (limit : ℕ) → ReadsUpTo before before name limit 0
ReadsUpTo-start before name limit = ([], Appends-none before, Stands 0)

-- one read that failed, or had no memory
pub ReadsOn-fault : (before now : Option (List ReadCall)) (name : List ℕ) (limit at from room : ℕ) (e : KeepError) → NotesRead before now name from room (Err e) → from ≡ at → from + room ≤ limit + 1 → ReadsOn before now name limit at (Err e)
ReadsOn-fault before now name limit at from room keep.Failed noted starts within =
    (record { name = name; from = from; room = room; gave = None }, noted, record { of_file = refl; from = starts; within = within }, refl)
ReadsOn-fault before now name limit at from room keep.Memory noted starts within = ([], at, subst (λ (w : Option (List ReadCall)). Appends before w []) (sym noted) (Appends-none before), Stands at)

-- one read that gave some bytes, for which there was no memory
pub ReadsOn-memory : (before now : Option (List ReadCall)) (name : List ℕ) (limit at from room n : ℕ) → NotesRead before now name from room (Ok n) → from ≡ at → from + room ≤ limit + 1 → 0 < n → n ≤ room → ReadsOn before now name limit at (Err keep.Memory)
ReadsOn-memory before now name limit at from room n noted starts within some fits =
    let call : ReadCall = record { name = name; from = from; room = room; gave = Some n } in
    (call ∷ [], at + n, noted, Gives at n (at + n) call [] (record { of_file = refl; from = starts; within = within }) refl some fits (Stands (at + n)))

-- one more read that gave some bytes
pub ReadsUpTo-more : (before between now : Option (List ReadCall)) (name : List ℕ) (limit at n : ℕ) → ReadsUpTo before between name limit at → ReadsOn between now name limit at (Ok n) → 0 < n → ReadsUpTo before now name limit (at + n)
ReadsUpTo-more before between now name limit at n (calls, made, goes_on) (call, noted, begins, gave, fits) some = (
  calls ++ call ∷ [],
  Appends-append before between now calls (call ∷ []) made noted,
  GoesOn-append name limit 0 at (at + n) calls (call ∷ []) goes_on (Gives at n (at + n) call [] begins gave some fits (Stands (at + n))),
)

-- one more read, which gave none: the file was read whole
pub ReadsWhole-end : (before between now : Option (List ReadCall)) (name text : List ℕ) (limit at : ℕ) → ReadsUpTo before between name limit at → ReadsOn between now name limit at (Ok 0) → length text ≡ at → ReadsWhole before now name limit (Ok text)
ReadsWhole-end before between now name text limit at (calls, made, goes_on) (call, noted, begins, gave, fits) long = (
  calls ++ call ∷ [],
  Appends-append before between now calls (call ∷ []) made noted,
  subst (λ (k : ℕ). EndsAt name limit (calls ++ call ∷ []) k (Some 0)) (sym long) (record { before = calls; last = call; are = refl; goes_on = goes_on; begins = begins; gave = gave }),
)

-- one more read, which failed or had no memory
pub ReadsWhole-fault : (before between now : Option (List ReadCall)) (name : List ℕ) (limit at : ℕ) (e : KeepError) → ReadsUpTo before between name limit at → ReadsOn between now name limit at (Err e) → ReadsWhole before now name limit (Err (read_error_of e))
ReadsWhole-fault before between now name limit at keep.Failed (calls, made, goes_on) (call, noted, begins, gave) =
    (calls ++ call ∷ [], Appends-append before between now calls (call ∷ []) made noted, (at, record { before = calls; last = call; are = refl; goes_on = goes_on; begins = begins; gave = gave }))
ReadsWhole-fault before between now name limit at keep.Memory (calls, made, goes_on) (more, upto, noted, rest) =
    (calls ++ more, Appends-append before between now calls more made noted, (upto, GoesOn-append name limit 0 at upto calls more goes_on rest))

-- no memory before the first read
pub ReadsWhole-none : (before : Option (List ReadCall)) (name : List ℕ) (limit : ℕ) → ReadsWhole before before name limit (Err Memory)
ReadsWhole-none before name limit = ([], Appends-none before, (0, Stands 0))
