use Rattle.vp_strips.proofs.Jobs.{some_part, shows_on}
use Rattle.vp_strips.specs.Canvases.{canvas_of}
use Rattle.vp_strips.proofs.job.Job.put_some.Goals as goal

pub put_line-n-requires-clause-pending : goal.put_line-n-requires-clause-pending
put_line-n-requires-clause-pending g c = let j = c.args.self.now in some_part j (canvas_of c.args.canvas.now) j.place j.after c.requires.turned c.requires.job.left c.requires.pending

pub returns-clause-job : goal.returns-clause-job
returns-clause-job g c = c.turn.ensures.job (canvas_of c.args.canvas.now) c.put_line-n.new.lines c.put_line-n.ensures.job

pub returns-clause-shows : goal.returns-clause-shows
returns-clause-shows g c = λ high others h.
    let j = c.args.self.now in
    let canvas = canvas_of c.args.canvas.now in
    let part = c.put_line-n.ensures in
    c.turn.ensures.shows canvas high others part.job.after
    (shows_on j c.put_line-n.new.self canvas c.put_line-n.result high others part.strip part.after part.rest (some_part j canvas j.place j.after c.requires.turned c.requires.job.left c.requires.pending) part.job.left h)
