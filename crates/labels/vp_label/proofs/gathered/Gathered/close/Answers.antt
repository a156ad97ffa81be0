use Rattle.std.proofs.Common.{◌≡◌, ◌∙◌, ◌++◌, ◌∷◌, [], ℕ, List, get_or, sym, subst, ap}
use Rattle.std.specs.List.{All}
use Rattle.std.specs.Result.{IfOk}
use Rattle.std.proofs.lemmas.List.Elements.{All-push}
use Rattle.std.specs.declared.result.Result.{Result}
use Rattle.vp_dots.specs.declared.fault.Fault.{Fault}
use Rattle.vp_format.specs.Formats.{Closed}
use Rattle.vp_format.specs.declared.field.Field.{Field}
use Rattle.vp_field.specs.Fields.{IsKept}
use Rattle.vp_field.specs.Laws.{StoredBehind}
use Rattle.vp_closing.specs.Contents.{made_if, stored_with}
use Rattle.vp_label.proofs.gathered.Gathered.close.Goals as goal

-- a field more, and what closing it made
kept_with : (old new made : List ℕ) (fields all : List Field) (f : Field) → StoredBehind → All (IsKept old) fields → new ≡ old ++ made → IsKept (old ++ made) f → all ≡ fields ++ f ∷ [] → All (IsKept new) all
kept_with old new made fields all f law kept is h more =
    subst (All (IsKept new)) (sym more) (subst (λ xs. All (IsKept xs) (fields ++ f ∷ [])) (sym is)
    (All-push (IsKept (old ++ made)) fields f (λ k d l. law.kept old made (get_or fields k d) (kept k d l)) h))

pub returns-clause-kept : goal.returns-clause-kept
returns-clause-kept g c =
    let some = c.requires.some.1 in
    let h = some.held (sym some.in_force.is_open ∙ c.requires.opened) in
    let old = c.args.self.now.format in
    let parts = c.parts-parts.result in
    let field = c.in_ok-field.field in
    kept_with old.stored c.close.new.self.stored (made_if old.stored parts.symbol parts.content) old.fields.items c.close.new.self.fields.items field c.stored_behind.ensures h.kept
    (c.close.ensures.stored ∙ c.keep_made.ensures.stored)
    (subst (λ (r : Result Field Fault). IfOk r (IsKept (stored_with old.stored parts))) c.in_ok-field.was c.in-Some.ensures.kept)
    (ap (λ (f : Closed). f.items) c.in-Ok.ensures.fields ∙ ap (λ (f : Closed). f.items ++ field ∷ []) c.keep_made.ensures.fields)
