-- The byte that makes a name whole.
use Rattle.std.proofs.Common.{◌≡◌, ℕ, Some, List, [], ◌∷◌, arith}
use Rattle.vp_zpl.specs.declared.reading.Reading.{Reading}
use Rattle.vp_zpl.specs.declared.name.Kind.{Kind}
use Rattle.vp_zpl.specs.declared.name.Name.{Name}
use Rattle.vp_zpl.specs.declared.reader.ZplReader.{ZplReader}
use Rattle.vp_zpl.specs.declared.reader.Phase.TheVariants.{AfterFirst}
use Rattle.vp_zpl.specs.Spelling.{kept, kept_of}
use Rattle.vp_zpl.specs.Shown.{shown_part, shown_parts}
use Rattle.vp_zpl.specs.Commands.{kind, kind_named, is_whole, in_format, in_format_by, indicator, indicator_by}
use Rattle.vp_zpl.specs.Items.{name_of, given, given_named}
use Rattle.vp_zpl.specs.Reader.{Named, StandsIn, Goes, in_phase, indicator_at, at_name, phase_behind, indicator_behind}
use Rattle.vp_zpl.proofs.Phases.{at_indicator}

name_gives : (reading : Reading) (k : Kind) (before : List (List ℕ)) (name : Name) → given_named reading k before name [] ≡ at_name k name
unfolding is_whole
name_gives reading k before name = grind arith

behind_indicates : (reading : Reading) (k : Kind) (command : List ℕ) (before : List (List ℕ)) → indicator reading (command ∷ before) ≡ indicator_by (Some k) command (in_format reading before) (indicator reading before)
    → indicator_behind k (indicator reading before) ≡ indicator_at reading (phase_behind k) command before
behind_indicates reading k command before e = grind arith

behind_phase : {reading : Reading} (k : Kind) (new : ZplReader) (command : List ℕ) → Named reading new k [] command → shown_parts new.sent.parameters.items ≡ [] → shown_part new.part ≡ kept []
    → in_phase reading (phase_behind k) new command
unfolding is_whole kept_of
behind_phase k new command n p q = grind arith

pub call_goes : {reading : Reading} (r new : ZplReader) (before : List (List ℕ)) (sign first second : ℕ) → StandsIn reading r before (sign ∷ first ∷ []) → r.phase ≡ AfterFirst sign first
    → new.reading ≡ r.reading → new.sent.name ≡ name_of sign first second → shown_parts new.sent.parameters.items ≡ [] → shown_part new.part ≡ kept []
    → new.in_format ≡ in_format_by (Some (kind_named reading sign first second)) r.in_format
    → new.indicator ≡ indicator_behind (kind_named reading sign first second) r.indicator
    → new.phase ≡ phase_behind (kind_named reading sign first second)
    → Goes reading (at_name (kind_named reading sign first second) (name_of sign first second)) new before (sign ∷ first ∷ []) second
unfolding given in_format indicator kind
call_goes r new before sign first second stands p same name kept_is part_is opened indicates phase = grind (arith, at_indicator, name_gives, behind_indicates, behind_phase)
