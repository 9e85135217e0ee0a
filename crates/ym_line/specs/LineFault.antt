-- Why a round was not finished.
use Rattle.ym_line.specs.declared.carrier.CarryFault.{CarryFault}
use Rattle.ym_line.specs.declared.carrier.CarryFault.TheVariants as carry
use Rattle.ym_line.specs.declared.fault.LineFault.{LineFault}
use Rattle.ym_line.specs.declared.fault.LineFault.TheVariants.{Carrier, Memory}

-- the line's fault where a carrier refused
abbrev pub fault_of : CarryFault → LineFault
fault_of carry.Device = Carrier
fault_of carry.Memory = Memory
