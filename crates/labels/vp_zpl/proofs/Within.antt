-- The profile and the whole language read alike, but for what that adds.
use Rattle.std.proofs.Common.{◌≡◌, ℕ, Bool, true, false, not, ◌==◌, ◌&&◌, cond, Option, Some, List, [], ◌∷◌, ◌++◌, map, reverse, refl, sym, ap, ◌∙◌, append_assoc, arith}
use Rattle.std.proofs.lemmas.List.{append-nil, map-append}
use Rattle.vp_zpl.specs.declared.reading.Reading.TheVariants.{Profile, Whole}
use Rattle.vp_zpl.specs.declared.name.Kind.{Kind}
use Rattle.vp_zpl.specs.declared.name.Kind.TheVariants as kinds
use Rattle.vp_zpl.specs.declared.name.Plain.{Plain}
use Rattle.vp_zpl.specs.declared.name.Plain.TheVariants as plain
use Rattle.vp_zpl.specs.declared.name.LinearCommand.{LinearCommand}
use Rattle.vp_zpl.specs.declared.name.MatrixCommand.{MatrixCommand}
use Rattle.vp_zpl.specs.declared.name.ShapeCommand.{ShapeCommand}
use Rattle.vp_zpl.specs.declared.name.Name.{Name}
use Rattle.vp_zpl.specs.Spelling.{Kept, capital, parameters, kept_of}
use Rattle.vp_zpl.specs.Arguments.{command_of}
use Rattle.vp_zpl.specs.Commands.{Cut, kind_of, kind_named, format_command, field_command, label_command, print_command, bar_command, graphic_command, profile_kind, added_kind, or_added, kind, wants_binary, wants_binary_named, with_byte, cut_back, cut, in_format, in_format_by, indicator, indicator_by, is_whole, head}
use Rattle.vp_zpl.specs.Items.{items, items_in, item_of, data_items, graphic, picture, name_of, text_known, text_at_end, given, given_named, at_end, at_end_named, all_ended}
use Rattle.vp_zpl.specs.Items.Item.{Data}
use Rattle.vp_zpl.specs.Reader.{has_parameters}
use Rattle.vp_zpl.specs.Laws.{narrowed, skipped_by, skipped_at_name}
use Rattle.vp_zpl.proofs.Cuts.{items-is}

-- the profile has the same command, but for an added one
abbrev less : Kind → Kind
less (kinds.Plain (plain.Linear k)) = kinds.Skipped
less (kinds.Plain (plain.Matrix k)) = kinds.Skipped
less (kinds.Plain (plain.Shape k)) = kinds.Skipped
less k = k

abbrev IsProfiled : Kind → Type 0
IsProfiled k = less k ≡ k

in_format_command : (b : ℕ) → IsProfiled (format_command b)
in_format_command b = grind arith

in_field : (b : ℕ) → IsProfiled (field_command b)
in_field b = grind arith

in_label : (b : ℕ) → IsProfiled (label_command b)
in_label b = grind arith

in_print : (b : ℕ) → IsProfiled (print_command b)
in_print b = grind arith

in_bar : (b : ℕ) → IsProfiled (bar_command b)
in_bar b = grind arith

in_graphic : (b : ℕ) → IsProfiled (graphic_command b)
in_graphic b = grind arith

profile_by : (o x f l p q g t d : Bool) (b : ℕ) → IsProfiled (cond o kinds.Skipped (cond x (format_command b) (cond f (field_command b) (cond l (label_command b)
    (cond p (print_command b) (cond q (bar_command b) (cond g (graphic_command b) (cond t (kinds.Plain plain.Font) (cond d (kinds.Plain plain.DefaultFont) kinds.Skipped)))))))))
profile_by true x f l p q g t d b = refl
profile_by false true f l p q g t d b = in_format_command b
profile_by false false true l p q g t d b = in_field b
profile_by false false false true p q g t d b = in_label b
profile_by false false false false true q g t d b = in_print b
profile_by false false false false false true g t d b = in_bar b
profile_by false false false false false false true t d b = in_graphic b
profile_by false false false false false false false true d b = refl
profile_by false false false false false false false false true b = refl
profile_by false false false false false false false false false b = refl

profile_has : (sign a b : ℕ) → IsProfiled (profile_kind sign a b)
profile_has sign a b =
    profile_by (not (sign == 0x5E)) (a == 0x58) (a == 0x46) (a == 0x4C) (a == 0x50) (a == 0x42) (a == 0x47) (a == 0x41) (a == 0x43 && b == 0x46) b

added_skipped : (sign a b : ℕ) → less (added_kind sign a b) ≡ kinds.Skipped
added_skipped sign a b = grind arith

either : (k l : Kind) → less k ≡ k → less l ≡ kinds.Skipped → k ≡ less (or_added k l)
either kinds.Skipped l e f = sym f
either k l e f = sym e

kind_less : (sign a b : ℕ) → kind_of Profile sign a b ≡ less (kind_of Whole sign a b)
unfolding kind_of
kind_less sign a b = either (profile_kind sign a b) (added_kind sign a b) (profile_has sign a b) (added_skipped sign a b)

named_less : (sign a b : ℕ) → kind_named Profile sign a b ≡ less (kind_named Whole sign a b)
named_less sign a b = kind_less sign (capital a) (capital b)

-- So it divides the stream alike.

wants_less : (k : Kind) (args : List ℕ) → wants_binary_named (less k) args ≡ wants_binary_named k args
wants_less k args = grind arith

wants_alike : (command : List ℕ) → wants_binary Profile command ≡ wants_binary Whole command
unfolding wants_binary
wants_alike (sign ∷ a ∷ b ∷ args) = ap (λ k. wants_binary_named k args) (named_less sign a b) ∙ wants_less (kind_named Whole sign a b) args
wants_alike _ = refl

byte_alike : (s : Cut) (c : ℕ) → with_byte Profile s c ≡ with_byte Whole s c
byte_alike s c = rw (wants_alike s.open_one) refl

back_alike : (bytes : List ℕ) → cut_back Profile bytes ≡ cut_back Whole bytes
back_alike [] = refl
back_alike (c ∷ bytes) = byte_alike (cut_back Profile bytes) c ∙ ap (λ s. with_byte Whole s c) (back_alike bytes)

pub cut_alike : (bytes : List ℕ) → cut Profile bytes ≡ cut Whole bytes
unfolding cut
cut_alike bytes = back_alike (reverse bytes)

-- The same format is open, and the same indicator acts.

open_by : (k : Kind) (was : Bool) → in_format_by (Some (less k)) was ≡ in_format_by (Some k) was
open_by k was = grind arith

open_named : (command : List ℕ) (was : Bool) → in_format_by (kind Profile command) was ≡ in_format_by (kind Whole command) was
unfolding kind
open_named (sign ∷ a ∷ b ∷ args) was = ap (λ k. in_format_by (Some k) was) (named_less sign a b) ∙ open_by (kind_named Whole sign a b) was
open_named _ was = refl

open_alike : (before : List (List ℕ)) → in_format Profile before ≡ in_format Whole before
unfolding in_format
open_alike [] = refl
open_alike (command ∷ before) = open_named command (in_format Profile before) ∙ ap (in_format_by (kind Whole command)) (open_alike before)

indicated_by : (k : Kind) (command : List ℕ) (opened : Bool) (was : Option ℕ)
    → indicator_by (Some (less k)) command opened was ≡ indicator_by (Some k) command opened was
indicated_by k command opened was = grind arith

indicated_named : (command : List ℕ) (opened : Bool) (was : Option ℕ)
    → indicator_by (kind Profile command) command opened was ≡ indicator_by (kind Whole command) command opened was
unfolding kind
indicated_named (sign ∷ a ∷ b ∷ args) opened was =
    ap (λ k. indicator_by (Some k) (sign ∷ a ∷ b ∷ args) opened was) (named_less sign a b)
    ∙ indicated_by (kind_named Whole sign a b) (sign ∷ a ∷ b ∷ args) opened was
indicated_named _ opened was = refl

indicates_alike : (before : List (List ℕ)) → indicator Profile before ≡ indicator Whole before
unfolding indicator
indicates_alike [] = refl
indicates_alike (command ∷ before) =
    ap (λ o. indicator_by (kind Profile command) command o (indicator Profile before)) (open_alike before)
    ∙ ap (indicator_by (kind Profile command) command (in_format Whole before)) (indicates_alike before)
    ∙ indicated_named command (in_format Whole before) (indicator Whole before)

-- What a command gives.

data_same : (bytes : List ℕ) → map narrowed (data_items bytes) ≡ data_items bytes
data_same [] = refl
data_same (b ∷ bytes) = ap (λ is. Data b ∷ is) (data_same bytes)

linear_skipped : (k : LinearCommand) (name : Name) (ps : List Kept) → narrowed (item_of (kinds.Plain (plain.Linear k)) name ps) ≡ item_of kinds.Skipped name []
unfolding command_of
linear_skipped k name ps = grind arith

matrix_skipped : (k : MatrixCommand) (name : Name) (ps : List Kept) → narrowed (item_of (kinds.Plain (plain.Matrix k)) name ps) ≡ item_of kinds.Skipped name []
unfolding command_of
matrix_skipped k name ps = grind arith

shape_skipped : (k : ShapeCommand) (name : Name) (ps : List Kept) → narrowed (item_of (kinds.Plain (plain.Shape k)) name ps) ≡ item_of kinds.Skipped name []
unfolding command_of
shape_skipped k name ps = grind arith

plain_same : (k : Plain) (name : Name) (ps : List Kept) → less (kinds.Plain k) ≡ kinds.Plain k → narrowed (item_of (kinds.Plain k) name ps) ≡ item_of (kinds.Plain k) name ps
unfolding command_of
plain_same k name ps e = grind arith

other_same : (k : Kind) (name : Name) (ps : List Kept) → has_parameters k ≡ false → narrowed (item_of k name ps) ≡ item_of k name ps
unfolding command_of
other_same k name ps e = grind arith

graphic_same : (name : Name) (args : List ℕ) → map narrowed (graphic name args) ≡ graphic name args
unfolding command_of
graphic_same name args = ap (λ is. item_of kinds.Graphic name (head args) ∷ is) (data_same (picture args))

ended_graphic : (w : Bool) (name : Name) (args : List ℕ) (ps : List Kept)
    → cond w (graphic name args) (item_of kinds.Graphic name ps ∷ []) ≡ map narrowed (cond w (graphic name args) (item_of kinds.Graphic name ps ∷ []))
unfolding command_of
ended_graphic true name args ps = sym (graphic_same name args)
ended_graphic false name args ps = refl

given_graphic : (w : Bool) (name : Name) (args : List ℕ) → cond w (graphic name args) [] ≡ map narrowed (cond w (graphic name args) []) ++ []
given_graphic true name args = sym (append-nil _ ∙ graphic_same name args)
given_graphic false name args = refl

ended_by : (k : Kind) (before : List (List ℕ)) (name : Name) (args : List ℕ)
    → at_end_named Profile (less k) before name args ≡ map narrowed (at_end_named Whole k before name args)
unfolding command_of
ended_by kinds.FieldHex before name args = refl
ended_by (kinds.Plain (plain.Linear k)) before name args = ap (λ i. i ∷ []) (sym (linear_skipped k name (kept_of (parameters args))))
ended_by (kinds.Plain (plain.Matrix k)) before name args = ap (λ i. i ∷ []) (sym (matrix_skipped k name (kept_of (parameters args))))
ended_by (kinds.Plain (plain.Shape k)) before name args = ap (λ i. i ∷ []) (sym (shape_skipped k name (kept_of (parameters args))))
ended_by (kinds.Plain k) before name args = ap (λ i. i ∷ []) (sym (plain_same k name (kept_of (parameters args)) (grind arith)))
ended_by kinds.Graphic before name args = ended_graphic (is_whole args) name args (kept_of (parameters args))
ended_by kinds.FieldData before name args =
    ap (λ x. item_of kinds.FieldData name [] ∷ data_items (text_at_end x args)) (indicates_alike before)
    ∙ ap (λ is. item_of kinds.FieldData name [] ∷ is) (sym (data_same (text_at_end (indicator Whole before) args)))
ended_by k before name args = refl

ended_alike : (before : List (List ℕ)) (command : List ℕ) → at_end Profile before command ≡ map narrowed (at_end Whole before command)
unfolding at_end
ended_alike before (sign ∷ a ∷ b ∷ args) =
    ap (λ k. at_end_named Profile k before (name_of sign a b) args) (named_less sign a b)
    ∙ ended_by (kind_named Whole sign a b) before (name_of sign a b) args
ended_alike before _ = refl

given_by : (k : Kind) (before : List (List ℕ)) (name : Name) (args : List ℕ)
    → given_named Profile (less k) before name args ≡ map narrowed (given_named Whole k before name args) ++ skipped_by k name
unfolding command_of
given_by kinds.FieldHex before name args = refl
given_by (kinds.Plain (plain.Linear k)) before name args = refl
given_by (kinds.Plain (plain.Matrix k)) before name args = refl
given_by (kinds.Plain (plain.Shape k)) before name args = refl
given_by (kinds.Plain k) before name args = grind arith
given_by kinds.Graphic before name args = given_graphic (is_whole args) name args
given_by kinds.FieldData before name args =
    ap (λ x. item_of kinds.FieldData name [] ∷ data_items (text_known x args)) (indicates_alike before)
    ∙ ap (λ is. item_of kinds.FieldData name [] ∷ is) (sym (append-nil _ ∙ data_same (text_known (indicator Whole before) args)))
given_by k before name args = refl

given_alike : (before : List (List ℕ)) (command : List ℕ)
    → given Profile before command ≡ map narrowed (given Whole before command) ++ skipped_at_name command
unfolding given
given_alike before (sign ∷ a ∷ b ∷ args) =
    ap (λ k. given_named Profile k before (name_of sign a b) args) (named_less sign a b)
    ∙ given_by (kind_named Whole sign a b) before (name_of sign a b) args
given_alike before _ = refl

all_alike : (before : List (List ℕ)) → all_ended Profile before ≡ map narrowed (all_ended Whole before)
unfolding all_ended
all_alike [] = refl
all_alike (command ∷ before) =
    ap (λ is. is ++ at_end Profile before command) (all_alike before)
    ∙ ap (λ is. map narrowed (all_ended Whole before) ++ is) (ended_alike before command)
    ∙ sym (map-append narrowed (all_ended Whole before) (at_end Whole before command))

in_alike : (s : Cut) → items_in Profile s ≡ map narrowed (items_in Whole s) ++ skipped_at_name s.open_one
in_alike s =
    ap (λ is. is ++ given Profile s.before s.open_one) (all_alike s.before)
    ∙ ap (λ is. map narrowed (all_ended Whole s.before) ++ is) (given_alike s.before s.open_one)
    ∙ sym (append_assoc (map narrowed (all_ended Whole s.before)) (map narrowed (given Whole s.before s.open_one)) (skipped_at_name s.open_one))
    ∙ ap (λ is. is ++ skipped_at_name s.open_one) (sym (map-append narrowed (all_ended Whole s.before) (given Whole s.before s.open_one)))

pub items_alike : (bytes : List ℕ) → items Profile bytes ≡ map narrowed (items Whole bytes) ++ skipped_at_name (cut Whole bytes).open_one
items_alike bytes =
    items-is Profile bytes ∙ ap (items_in Profile) (cut_alike bytes) ∙ in_alike (cut Whole bytes)
    ∙ ap (λ is. map narrowed is ++ skipped_at_name (cut Whole bytes).open_one) (sym (items-is Whole bytes))
