-- Items are of no more bytes than were read.
use Rattle.std.proofs.Common.{◌≡◌, ◌≤◌, ℕ, ◌+◌, ◌-◌, Bool, cond, Option, List, [], ◌∷◌, ◌++◌, length, reverse, filter, refl, ap, arith, lit≤}
use Rattle.std.proofs.lemmas.List.{length-take, length-reverse, length_push}
use Rattle.vp_zpl.specs.declared.reading.Reading.{Reading}
use Rattle.vp_zpl.specs.declared.name.Kind.{Kind}
use Rattle.vp_zpl.specs.declared.name.Kind.TheVariants as kinds
use Rattle.vp_zpl.specs.declared.name.Name.{Name}
use Rattle.vp_zpl.specs.Spelling.{behind_commas, decoded}
use Rattle.vp_zpl.specs.Commands.{Cut, cut, cut_back, with_byte, is_whole, indicator}
use Rattle.vp_zpl.specs.Items.{Item, items, data_items, graphic, picture, is_code, text_at_end, given, at_end, at_end_named, all_ended, least_bytes}
use Rattle.vp_zpl.proofs.Cuts.{items-is}
use Rattle.vp_zpl.proofs.Growth.{end_grows}

pub least_append : (xs ys : List Item) → least_bytes (xs ++ ys) ≡ least_bytes xs + least_bytes ys
least_append [] ys = omega arith
least_append (x ∷ xs) ys = omega (arith, least_append xs ys)

least_data : (bytes : List ℕ) → least_bytes (data_items bytes) ≡ length bytes
least_data [] = refl
least_data (b ∷ bytes) = omega (arith, least_data bytes)

-- Data that a command gives are no longer than what is behind its name.

codes_few : (bytes : List ℕ) → length (filter is_code bytes) ≤ length bytes
codes_few [] = lit≤ tt
codes_few (b ∷ bytes) = grind (arith, codes_few bytes)

behind_few : (n : ℕ) (args : List ℕ) → length (behind_commas n args) ≤ length args
behind_few n [] = lit≤ tt
behind_few n (c ∷ args) = grind (arith, behind_few (n - 1) args, behind_few n args)

picture_few : (args : List ℕ) → length (picture args) ≤ length args
unfolding picture
picture_few args = grind (arith, length-take, behind_few, codes_few)

decoded_few : (x : ℕ) (bytes : List ℕ) → length (decoded x bytes) ≤ length bytes
decoded_few x [] = lit≤ tt
decoded_few x (a ∷ []) = lit≤ tt
decoded_few x (a ∷ b ∷ []) = lit≤ tt
decoded_few x (a ∷ b ∷ c ∷ more) = grind (arith, decoded_few x more, decoded_few x (b ∷ c ∷ more))

at_end_text : (o : Option ℕ) (args : List ℕ) → length (text_at_end o args) ≤ length args
at_end_text o args = grind (arith, decoded_few)

-- Of a command.

graphic_few : (name : Name) (args : List ℕ) → least_bytes (graphic name args) ≤ 3 + length args
graphic_few name args = omega (arith, least_data (picture args), picture_few args)

items_either : (b : Bool) (xs ys : List Item) (n : ℕ) → least_bytes xs ≤ n → least_bytes ys ≤ n → least_bytes (cond b xs ys) ≤ n
items_either b xs ys n h k = grind arith

ended_named : (reading : Reading) (k : Kind) (before : List (List ℕ)) (name : Name) (args : List ℕ) → least_bytes (at_end_named reading k before name args) ≤ 3 + length args
ended_named reading kinds.Graphic before name args = items_either (is_whole args) _ _ (3 + length args) (graphic_few name args) (omega arith)
ended_named reading kinds.FieldData before name args = omega (arith, least_data (text_at_end (indicator reading before) args), at_end_text (indicator reading before) args)
ended_named reading _ before name args = omega arith

ended_few : (reading : Reading) (before : List (List ℕ)) (command : List ℕ) → least_bytes (at_end reading before command) ≤ length command
unfolding at_end
ended_few reading before command = grind (arith, lit≤, ended_named)

given_few : (reading : Reading) (before : List (List ℕ)) (command : List ℕ) → least_bytes (given reading before command) ≤ length command
given_few reading before command = let g = end_grows reading before command in
    omega (arith, ended_few reading before command, ap least_bytes g.is, least_append (given reading before command) g.added)

-- the bytes of all commands
abbrev all_bytes : List (List ℕ) → ℕ
all_bytes [] = 0
all_bytes (command ∷ before) = length command + all_bytes before

all_few : (reading : Reading) (before : List (List ℕ)) → least_bytes (all_ended reading before) ≤ all_bytes before
unfolding all_ended
all_few reading [] = lit≤ tt
all_few reading (command ∷ before) = omega (arith, least_append (all_ended reading before) (at_end reading before command), all_few reading before, ended_few reading before command)

-- no more bytes stand in commands than were read
abbrev cut_bytes : Cut → ℕ
cut_bytes s = all_bytes s.before + length s.open_one

byte_few : (reading : Reading) (s : Cut) (c : ℕ) → cut_bytes (with_byte reading s c) ≤ cut_bytes s + 1
byte_few reading s c = grind (arith, lit≤, length_push)

back_few : (reading : Reading) (bytes : List ℕ) → cut_bytes (cut_back reading bytes) ≤ length bytes
back_few reading [] = lit≤ tt
back_few reading (c ∷ bytes) = omega (arith, byte_few reading (cut_back reading bytes) c, back_few reading bytes)

cut_few : (reading : Reading) (bytes : List ℕ) → cut_bytes (cut reading bytes) ≤ length bytes
unfolding cut
cut_few reading bytes = omega (arith, back_few reading (reverse bytes), length-reverse bytes)

pub items_least : (reading : Reading) (bytes : List ℕ) → least_bytes (items reading bytes) ≤ length bytes
items_least reading bytes = grind (arith, items-is, least_append, all_few, given_few, cut_few)
