use Rattle.vp_bars.proofs.SignTexts.{codabar_text, around_text, code93_text}
use Rattle.vp_bars.proofs.AsciiTexts.{ascii_text}
use Rattle.vp_bars.proofs.laws.signs_text_law.Goals as goal

pub returns-clause-codabar : goal.returns-clause-codabar
returns-clause-codabar c = codabar_text

pub returns-clause-around : goal.returns-clause-around
returns-clause-around c = around_text

pub returns-clause-code93 : goal.returns-clause-code93
returns-clause-code93 c = code93_text

pub returns-clause-ascii : goal.returns-clause-ascii
returns-clause-ascii c = ascii_text
