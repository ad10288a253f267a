-- A run of a call whose accesses stand behind marks comes to the same rest on other fields.
use Rattle.std.proofs.Common.{◌≡◌, true, List, sym, ap, subst, ◌∙◌}
use Rattle.access_blocks.specs.Expressions.{Calls}
use Rattle.access_blocks.specs.Source.{Frame, CallState, Moves, Rests, Runs, Rest, Go}
use Rattle.access_blocks.specs.Statements.{Field, Machine}
use Rattle.quiet_runs.specs.Quiet.{frames_are_quiet, on_fields, rest_on, KnowsNoFields}
use Rattle.quiet_runs.proofs.Moves.{moved_on, StaysQuiet, move_knows}

same_left : (a b : CallState) (fs gs : List Field) → Rests a fs ≡ Rests b gs → fs ≡ gs
same_left a b fs gs e = cc

same_fields : (frames others : List Frame) (m n : Machine) → Moves frames m ≡ Moves others n → m.fields ≡ n.fields
same_fields frames others m n e = ap (λ (x : Machine). x.fields) same
  where
    same : m ≡ n
    same = cc

pub runs_know : (calls : Calls) (frames : List Frame) (m : Machine) (state : CallState) (left : List Field) → frames_are_quiet frames ≡ true → Runs calls frames m state left
    → KnowsNoFields calls frames m state left
runs_know calls frames m state left h (Rest _ _ _ _ is) =
    let k = move_knows calls frames m h in
    record {
      same = same_left state (rest_on m.fields state) left m.fields (sym is ∙ (k.others m.fields ∙ ap (moved_on m.fields) is));
      quiet = subst StaysQuiet is k.quiet;
      others = λ fields. Rest frames (on_fields fields m) (rest_on fields state) fields (k.others fields ∙ ap (moved_on fields) is);
    }
runs_know calls frames m state left h (Go _ next _ n _ _ is run) =
    let k = move_knows calls frames m h in
    let rest = runs_know calls next n state left (subst StaysQuiet is k.quiet) run in
    record {
      same = rest.same ∙ same_fields next next n (on_fields m.fields n) (sym is ∙ (k.others m.fields ∙ ap (moved_on m.fields) is));
      quiet = rest.quiet;
      others = λ fields. Go frames next (on_fields fields m) (on_fields fields n) (rest_on fields state) fields (k.others fields ∙ ap (moved_on fields) is) (rest.others fields);
    }
