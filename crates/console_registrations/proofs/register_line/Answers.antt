-- `register_line` meets its contract.
use Rattle.console_registrations.proofs.Registers.{line_registers}
use Rattle.console_registrations.proofs.register_line.Goals as goal

pub returns : goal.returns
returns c =
    line_registers c.finish.ensures c.requires.sound
    c.register_sound-r.ensures
