-- `put_registered` meets its contract.
use Rattle.console_registrations.proofs.put_registered.Goals as goal

pub returns-in-Ok : goal.returns-in-Ok
returns-in-Ok c =
    rw c.in-Ok.is c.put_ok.ensures

pub returns-in-Err : goal.returns-in-Err
returns-in-Err c =
    rw c.in-Err.is (rw c.from-code.ensures at c.put_refused.ensures)
