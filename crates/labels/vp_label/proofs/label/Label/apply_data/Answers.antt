use Rattle.std.proofs.Common.{◌∙◌, ap, arith}
use Rattle.vp_zpl.specs.Items.{data_items}
use Rattle.vp_label_settings.specs.Formats.{followed_by}
use Rattle.vp_label.proofs.Pending.{none_printing}
use Rattle.vp_label.proofs.Work.{data_work}
use Rattle.vp_label.specs.Work.{label_work, label_shown}
use Rattle.vp_label.specs.declared.press.Press.{Press}
use Rattle.vp_label.proofs.label.Label.apply_data.Goals as goal

pub returns-clause-stands : goal.returns-clause-stands
returns-clause-stands g c = λ sheets before st. record {
  sheets_are = c.store.ensures.sheets ∙ st.sheets_are;
  gathered = c.in-Ok.ensures.stands sheets before st.gathered;
  printing = λ some. none_printing sheets c.store.new.self.gathered (followed_by before (data_items c.args.bytes.now)) _ c.in-Ok.ensures.pending some;
  at_most = omega (arith, ap (λ (p : Press _). p.painter.work) c.in-Ok.ensures.idle, data_work label_work sheets before c.args.bytes.now, st.at_most);
  at_least = λ _. omega (arith, ap (λ (p : Press _). p.painter.work) c.in-Ok.ensures.idle, data_work label_shown sheets before c.args.bytes.now, st.at_least c.requires.pending);
}
