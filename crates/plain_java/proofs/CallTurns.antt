-- No call leaves more turns than it had.
use Rattle.std.proofs.Common.{◌≤◌, ℕ, zero, suc, List, [], Option, Some, None, slice_get, arith}
use Rattle.sdg_base.specs.declared.val.Val.{Val}
use Rattle.sdg_base.specs.Limits.{turns_at_start}
use Rattle.access_blocks.specs.declared.body.Body.{Body}
use Rattle.access_blocks.specs.Expressions.{Calls}
use Rattle.access_blocks.specs.Statements.{Completion, Normal, Breaks, Continues, Returns, Halts, Machine, meanings}
use Rattle.access_blocks.specs.Calls.{given_by, ran, machine_at_start, calls_within, calls_of}
use Rattle.plain_java.proofs.Turns.{AtMost, gives, ended, lower, CallsFall}
use Rattle.plain_java.proofs.Keeping.{meanings_keep}

given_falls : (c : Completion) (left turns : ℕ) → left ≤ turns → AtMost turns (given_by c left)
given_falls Normal left turns less = record { leaves = less }
given_falls Breaks left turns less = record { leaves = less }
given_falls Continues left turns less = record { leaves = less }
given_falls (Returns v) left turns less = record { leaves = less }
given_falls (Halts h) left turns less = ended

ran_falls : (calls : Calls) → CallsFall calls → (body : Option Body) (args gathered : List Val) (turns : ℕ) → AtMost turns (ran calls body args gathered turns)
ran_falls calls fall None args gathered turns = gives
ran_falls calls fall (Some b) args gathered turns =
    let start : Machine = machine_at_start b args gathered turns [] in
    let end = meanings calls b.statements start in
    given_falls end.completion end.machine.turns turns (meanings_keep calls fall b.statements start).falls

calls_fall : (depth : ℕ) (methods : List Body) → CallsFall (calls_within depth methods)
calls_fall zero methods m args gathered turns = ended
calls_fall (suc depth) methods m args gathered zero = ended
calls_fall (suc depth) methods m args gathered (suc left) =
    lower (ran (calls_within depth methods) (slice_get methods m) args gathered left) left (suc left) (omega arith)
    (ran_falls (calls_within depth methods) (calls_fall depth methods) (slice_get methods m) args gathered left)

pub calls_of_fall : (methods : List Body) → CallsFall (calls_of methods)
calls_of_fall = calls_fall turns_at_start
