use Rattle.vd_disk.proofs.memory.Row.step.Goals as goal

pub returns-in-Lengthen : goal.returns-in-Lengthen
returns-in-Lengthen c = rw c.in-Lengthen.is c.lengthen.ensures
