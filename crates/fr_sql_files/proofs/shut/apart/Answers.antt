use Rattle.fr_sql_files.proofs.shut.apart.Goals as goal

pub returns-in-Ok : goal.returns-in-Ok
returns-in-Ok g c = record { parted = record { leaves = c.in-Ok.ensures.leaves; still = tt; trouble = tt } }

pub returns-in-Err : goal.returns-in-Err
returns-in-Err g c = record { parted = record { leaves = tt; still = c.in-Err.ensures.still; trouble = c.in-Err.ensures.trouble } }
