-- A command whose name is known.
use Rattle.std.proofs.Common.{◌≡◌, ℕ, Bool, true, false, Some, List, [], ◌∷◌, ◌++◌, refl, sym, ap, ◌∙◌, arith, nat_lt, subst}
use Rattle.vp_zpl.specs.declared.reading.Reading.{Reading}
use Rattle.vp_zpl.specs.declared.name.Kind.{Kind}
use Rattle.vp_zpl.specs.declared.name.Kind.TheVariants as kinds
use Rattle.vp_zpl.specs.declared.reader.ZplReader.{ZplReader}
use Rattle.vp_zpl.specs.declared.reader.Phase.{Phase}
use Rattle.vp_zpl.specs.Commands.{kind, is_short, longer, in_format, in_format_by, indicator, indicator_by, wants_binary, wants_binary_named}
use Rattle.vp_zpl.specs.Items.{Item, given, given_named, at_end, at_end_named, name_of}
use Rattle.vp_zpl.specs.Reader.{Named, Goes, in_phase, indicator_at, left_of}

module _ {reading : Reading} {r : ZplReader} {k : Kind} {args command : List ℕ} (n : Named reading r k args command) where
  pub given-is : (before : List (List ℕ)) → given reading before command ≡ given_named reading k before r.sent.name args
  unfolding given
  given-is before = ap (given reading before) n.bytes ∙ ap (λ x. given_named reading x before (name_of n.sign n.first n.second) args) n.kind ∙ ap (λ x. given_named reading k before x args) (sym n.name)

  pub at_end-is : (before : List (List ℕ)) → at_end reading before command ≡ at_end_named reading k before r.sent.name args
  unfolding at_end
  at_end-is before = ap (at_end reading before) n.bytes ∙ ap (λ x. at_end_named reading x before (name_of n.sign n.first n.second) args) n.kind ∙ ap (λ x. at_end_named reading k before x args) (sym n.name)

  pub kind-is : kind reading command ≡ Some k
  unfolding kind
  kind-is = ap (kind reading) n.bytes ∙ ap (λ x. Some x) n.kind

  pub wants-is : wants_binary reading command ≡ wants_binary_named k args
  unfolding wants_binary
  wants-is = ap (wants_binary reading) n.bytes ∙ ap (λ x. wants_binary_named x args) n.kind

  pub named_longer : (new : ZplReader) (c : ℕ) → new.sent.name ≡ r.sent.name → Named reading new k (args ++ c ∷ []) (longer command c)
  named_longer new c e = grind arith

pub opened-is : {reading : Reading} {r : ZplReader} {k : Kind} {args command : List ℕ} → Named reading r k args command → (before : List (List ℕ)) → in_format reading (command ∷ before) ≡ in_format_by (Some k) (in_format reading before)
unfolding in_format
opened-is {reading} n before = ap (λ x. in_format_by x (in_format reading before)) (kind-is n)

pub indicator-is : {reading : Reading} {r : ZplReader} {k : Kind} {args command : List ℕ} → Named reading r k args command → (before : List (List ℕ)) → indicator reading (command ∷ before) ≡ indicator_by (Some k) command (in_format reading before) (indicator reading before)
unfolding indicator
indicator-is {reading} {command = command} n before = ap (λ x. indicator_by x command (in_format reading before) (indicator reading before)) (kind-is n)

abbrev pub is_indicator : Kind → Bool
is_indicator kinds.FieldHex = true
is_indicator _ = false

pub wants_in : (reading : Reading) (p : Phase) (r : ZplReader) (o : List ℕ) → in_phase reading p r o → wants_binary reading o ≡ nat_lt 0 (left_of p)
unfolding wants_binary is_short
wants_in reading p r o e = grind arith

-- a byte that the named command takes
pub goes_named : {reading : Reading} {r : ZplReader} {k : Kind} {args : List ℕ} (shows : List Item) (new : ZplReader) (before : List (List ℕ)) (command : List ℕ) (c : ℕ) (q : Phase)
    → Named reading r k args command → new.reading ≡ reading → new.in_format ≡ in_format reading (command ∷ before) → new.phase ≡ q
    → new.indicator ≡ indicator_at reading q (longer command c) before
    → given_named reading k before r.sent.name (args ++ c ∷ []) ≡ given_named reading k before r.sent.name args ++ shows
    → new.sent.name ≡ r.sent.name
    → in_phase reading q new (longer command c) → Goes reading shows new before command c
goes_named {reading} {r} shows new before command c q n reads opened at indicates gives name phase =
    let m = named_longer n new c name in
    record {
      gives = given-is (named_longer n r c refl) before ∙ gives ∙ ap (λ i. i ++ shows) (sym (given-is n before));
      stands = record {
        reads = reads;
        opened = opened ∙ opened-is n before ∙ sym (opened-is m before);
        indicates = indicates ∙ ap (λ x. indicator_at reading x (longer command c) before) (sym at);
        phase = subst (λ x. in_phase reading x new (longer command c)) (sym at) phase;
      };
    }

pub indicator_longer : {reading : Reading} {r : ZplReader} {k : Kind} {args : List ℕ} (before : List (List ℕ)) (command : List ℕ) (c : ℕ) → Named reading r k args command → is_indicator k ≡ false
    → indicator reading (command ∷ before) ≡ indicator reading (longer command c ∷ before)
indicator_longer {r} {k} before command c n e =
    indicator-is n before ∙ (grind arith) ∙ sym (indicator-is (named_longer n r c refl) before)
