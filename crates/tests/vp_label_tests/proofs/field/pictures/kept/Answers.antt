use Rattle.vp_label_tests.proofs.field.pictures.kept.Goals as goal

pub returns-else-keeps : goal.returns-else-keeps
returns-else-keeps c = λ stored content given. c.none.ensures stored content
