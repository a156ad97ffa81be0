use Rattle.std.proofs.Common.{◌∙◌}
use Rattle.vp_engine.specs.Images.{labels}
use Rattle.vp_engine.specs.Paper.{history, before_fault}
use Rattle.vp_engine.proofs.Faults.{paper_is}
use Rattle.vp_engine.proofs.Labels.{printed_same}
use Rattle.vp_engine.proofs.laws.a_label_is_images.Goals as goal

pub returns-clause-images : goal.returns-clause-images
returns-clause-images c = λ by sheets bytes.
    let items = history (labels by sheets) (before_fault (labels by sheets) bytes) in
    paper_is (labels by sheets) bytes ∙ printed_same by sheets items ∙ c.what_is_printed_is_images.ensures.images sheets items

pub returns-clause-sizes : goal.returns-clause-sizes
returns-clause-sizes c = λ by sheets bytes. c.what_is_printed_is_images.ensures.sizes sheets (history (labels by sheets) (before_fault (labels by sheets) bytes))
