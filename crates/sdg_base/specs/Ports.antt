-- When two ports are one, and what holds of one port and not of the others.
use Rattle.std.specs.Prelude.{Bool, true, false, ◌&&◌, ◌==◌}
use Rattle.sdg_base.specs.declared.port.Port.{Port}
use Rattle.sdg_base.specs.declared.port.Port.TheVariants as port

unfoldable pub same_port : Port → Port → Bool
same_port port.Caller port.Caller = true
same_port port.Sink port.Sink = true
same_port port.Front port.Front = true
same_port port.Join port.Join = true
same_port (port.Slot f s) (port.Slot g t) = f == g && s == t
same_port (port.Inst f s) (port.Inst g t) = f == g && s == t
same_port _ _ = false
