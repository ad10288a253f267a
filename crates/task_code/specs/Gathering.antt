-- Values that parts brought, gathered behind others.
use Rattle.std.specs.Prelude.{List, ◌++◌, Option, Some, None}
use Rattle.sdg_base.specs.declared.val.Outcome.{Outcome}
use Rattle.sdg_base.specs.declared.val.Val.{Val}
use Rattle.flat_code.specs.Items.{Gathered, AllValues, FirstOther}

-- all values are those so far and these
abbrev pub after : List Val → Gathered → Gathered
after done (AllValues vs) = AllValues (done ++ vs)
after done (FirstOther how) = FirstOther how

-- the values so far, with what others bring, or an outcome that was no value
abbrev pub with_others : Option Outcome → List Val → Gathered → Gathered
with_others None done others = after done others
with_others (Some how) done others = FirstOther how

-- the values, or an outcome that was no value
abbrev pub gathered_by : Option Outcome → List Val → Gathered
gathered_by None done = AllValues done
gathered_by (Some how) done = FirstOther how
