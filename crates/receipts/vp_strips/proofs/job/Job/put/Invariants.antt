use Rattle.std.proofs.Common.{ℕ, length, ◌-◌, ◌≡◌, ◌≤◌, ◌++◌, take, drop}
use Rattle.vp_strips.specs.Held.{job_text, IsJob, IsTurned, IsShowing}
use Rattle.vp_strips.specs.Canvases.{canvas_of}
use Rattle.vp_strips.proofs.job.Job.put.Given as goal

-- n bytes are out, and the others stand as they were
abbrev pub invariant-loop-n : goal.invariant-loop-n
invariant-loop-n g l = record {
  job : IsJob l.self (canvas_of l.canvas) l.lines;
  turned : IsTurned l.self.place l.self.after;
  room : l.n ≤ length l.initial.out;
  left : l.n ≤ length (job_text l.initial.self (canvas_of l.canvas));
  bytes : l.out ≡ take l.n (job_text l.initial.self (canvas_of l.canvas)) ++ drop l.n l.initial.out;
  shows : (high others : ℕ) → IsShowing l.initial.self (canvas_of l.canvas) high others → IsShowing l.self (canvas_of l.canvas) high others;
  rest : job_text l.self (canvas_of l.canvas) ≡ drop l.n (job_text l.initial.self (canvas_of l.canvas));
}

abbrev pub decreases-loop-n : goal.decreases-loop-n
decreases-loop-n g l = length l.initial.out - l.n
