-- What the whole call answered before netting over part of the face it answers the same.
-- Assumes nothing.
use mathlib.Core.List.{List}
use Prim.Native.Nat.{ℕ}
use Rattle.job.specs.Job.{job_of}
use Rattle.job.specs.Netting.{Below30}
use Rattle.job.proofs.Rows.{unrefused_stands, told as job-told}
use Rattle.job.proofs.Netting.{netting as job-netting}
use Rattle.jobfile.specs.Kind.{scaffold}
use Rattle.rembilung.specs.Table.{Answers}
use Rattle.rembilung.specs.Netting.{AnsweredBefore, Netting}
use Rattle.rembilung.proofs.Answered.{call_answered}

answered : (sheet file out ns : List ℕ) → AnsweredBefore sheet file out ns → Answers scaffold sheet file out ns
answered sheet file out ns a =
    record {
      judges =
          record {
            sheet_stands = a.sheet_stands;
            reads = record { holds = a.holds; stands = unrefused_stands (job_of ns) (job-netting.accepted (job_of ns) a.accepted) };
          };
      room = a.room;
    }

newly : (sheet file out ns : List ℕ) → Answers scaffold sheet file out ns → (AnsweredBefore sheet file out ns → ⊥) → Below30 (job_of ns)
newly sheet file out ns a h =
    let s = a.judges in
    job-netting.newly (job_of ns) ((job-told.told (job_of ns)).none s.reads.stands)
    (λ e. h (record { sheet_stands = s.sheet_stands; holds = s.reads.holds; accepted = e; room = a.room }))

pub netting : Netting
netting = record { same = λ sheet file out ns w a. call_answered sheet file out w scaffold ns (answered sheet file out ns a); newly = newly }
