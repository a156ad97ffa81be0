use Rattle.std.proofs.Common.{◌≡◌, Bool, true, false, not, ◌&&◌, ℕ, nat_lt, [], ◌∷◌, Some, None, unwrap_or, cond, refl, ap, ◌∙◌}
use Rattle.vp_esc.specs.declared.item.EscItem.TheVariants.{Initialize, PageMode, StandardMode, FormFeed, LeftMargin, AreaWidth}
use Rattle.vp_receipt_settings.specs.declared.page_mode.PrinterMode.{PrinterMode}
use Rattle.vp_receipt_settings.specs.declared.page_mode.PrinterMode.TheVariants.{Page}
use Rattle.vp_receipt_settings.specs.Line.{Frame, line, frame, is_open, left_margin, area_width, mode, margin_set, width_set, mode_set}
use Rattle.vp_receipt_settings.specs.Setup.{across}
use Rattle.vp_receipt_settings.proofs.laws.a_frame_is_what_was_set_last.Goals as goal

-- a value that is set where no line is open and it is in its range
set_if : (is_in within : Bool) (n old : ℕ) → cond is_in old (cond within n old) ≡ unwrap_or (cond (not is_in && within) (Some n) None) old
set_if true within n old = refl
set_if false true n old = refl
set_if false false n old = refl

margin_of : (is_in : Bool) (f g : Frame) → (cond is_in f g).left_margin ≡ cond is_in f.left_margin g.left_margin
margin_of true f g = refl
margin_of false f g = refl

width_of : (is_in : Bool) (f g : Frame) → (cond is_in f g).area_width ≡ cond is_in f.area_width g.area_width
width_of true f g = refl
width_of false f g = refl

mode_of : (is_in : Bool) (f g : Frame) → (cond is_in f g).mode ≡ cond is_in f.mode g.mode
mode_of true f g = refl
mode_of false f g = refl

same : {A : Type 0} (is_in : Bool) (old : A) → cond is_in old old ≡ old
same true old = refl
same false old = refl

page_if : (is_in : Bool) (old : PrinterMode) → cond is_in old Page ≡ unwrap_or (cond (not is_in) (Some Page) None) old
page_if true old = refl
page_if false old = refl

pub returns-clause-left_margin : goal.returns-clause-left_margin
returns-clause-left_margin c setup [] = refl
returns-clause-left_margin c setup (LeftMargin n ∷ before) =
    let is_in = is_open (line setup before) in
    let old = left_margin setup before in
    margin_of is_in (frame setup before) _ ∙ set_if is_in (nat_lt n (across setup.width)) n old
    ∙ ap (unwrap_or (margin_set setup before (LeftMargin n))) (returns-clause-left_margin c setup before)
returns-clause-left_margin c setup (PageMode ∷ before) =
    margin_of (is_open (line setup before)) (frame setup before) _ ∙ same (is_open (line setup before)) (left_margin setup before) ∙ returns-clause-left_margin c setup before
returns-clause-left_margin c setup (AreaWidth n ∷ before) =
    margin_of (is_open (line setup before)) (frame setup before) _ ∙ same (is_open (line setup before)) (left_margin setup before) ∙ returns-clause-left_margin c setup before
returns-clause-left_margin c setup (Initialize ∷ before) = refl
returns-clause-left_margin c setup (_ ∷ before) = returns-clause-left_margin c setup before

pub returns-clause-area_width : goal.returns-clause-area_width
returns-clause-area_width c setup [] = refl
returns-clause-area_width c setup (AreaWidth n ∷ before) =
    let is_in = is_open (line setup before) in
    let old = area_width setup before in
    width_of is_in (frame setup before) _ ∙ set_if is_in (nat_lt 0 n) n old
    ∙ ap (unwrap_or (width_set setup before (AreaWidth n))) (returns-clause-area_width c setup before)
returns-clause-area_width c setup (PageMode ∷ before) =
    width_of (is_open (line setup before)) (frame setup before) _ ∙ same (is_open (line setup before)) (area_width setup before) ∙ returns-clause-area_width c setup before
returns-clause-area_width c setup (LeftMargin n ∷ before) =
    width_of (is_open (line setup before)) (frame setup before) _ ∙ same (is_open (line setup before)) (area_width setup before) ∙ returns-clause-area_width c setup before
returns-clause-area_width c setup (Initialize ∷ before) = refl
returns-clause-area_width c setup (_ ∷ before) = returns-clause-area_width c setup before

pub returns-clause-mode : goal.returns-clause-mode
returns-clause-mode c setup [] = refl
returns-clause-mode c setup (PageMode ∷ before) =
    let is_in = is_open (line setup before) in
    let old = mode setup before in
    mode_of is_in (frame setup before) _ ∙ page_if is_in old
    ∙ ap (unwrap_or (mode_set setup before PageMode)) (returns-clause-mode c setup before)
returns-clause-mode c setup (LeftMargin n ∷ before) =
    mode_of (is_open (line setup before)) (frame setup before) _ ∙ same (is_open (line setup before)) (mode setup before) ∙ returns-clause-mode c setup before
returns-clause-mode c setup (AreaWidth n ∷ before) =
    mode_of (is_open (line setup before)) (frame setup before) _ ∙ same (is_open (line setup before)) (mode setup before) ∙ returns-clause-mode c setup before
returns-clause-mode c setup (Initialize ∷ before) = refl
returns-clause-mode c setup (StandardMode ∷ before) = refl
returns-clause-mode c setup (FormFeed ∷ before) = refl
returns-clause-mode c setup (_ ∷ before) = returns-clause-mode c setup before
