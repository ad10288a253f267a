-- One pass of a loop, before what follows it.
use Rattle.std.specs.Prelude.{Option, if◌then◌else◌}
use Rattle.access_blocks.specs.declared.body.Expression.{Expression}
use Rattle.access_blocks.specs.Expressions.{Calls, is_true}
use Rattle.access_blocks.specs.Statements.{Completed, Machine, Running, normal, after, after_body, spent, tested}

abbrev pub updated : Running → Machine → Running → Completed
updated update m f = after (update m) f

abbrev pub round : Running → Running → Machine → Running → Completed
round update body m f = spent m (λ left. after_body (body left) (λ o. updated update o f))

abbrev pub pass : Calls → Option Expression → Running → Running → Machine → Running → Completed
pass calls test update body m f = tested calls test m (λ holds n. if is_true holds then round update body n f else normal n)
