use Rattle.std.proofs.Common.{◌↔◌, ◌++◌, take, drop}
use Rattle.early_forms.specs.Names.{BodyIsKnown, locals}
use Rattle.early_forms.specs.Scope.{Holds}
use Rattle.early_forms.proofs.scope.body_is_known.Given as goal

-- the names in scope, and what is left to be known
abbrev pub invariant-loop-statement : goal.invariant-loop-statement
invariant-loop-statement l =
    let scope = l.method.parameters ++ locals (take l.statement-index l.statements) in
    record {
      held : Holds l.scope.keys scope;
      rest :
          BodyIsKnown l.fields l.method.parameters l.statements l.method.ending
          ↔ BodyIsKnown l.fields scope (drop l.statement-index l.statements) l.method.ending;
    }
