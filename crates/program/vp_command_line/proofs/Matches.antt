-- What a caller reads of the matches, by their rows.
use Rattle.std.proofs.Common.{◌≡◌, Bool, true, false, List, [], ◌∷◌, map, Option, Some, None, option_map, refl, cond}
use Rattle.std.specs.Prelude.{find, option_and_then, slice_get}
use Rattle.std.specs.Borrow.{Bor}
use Rattle.std.specs.Str.{bytes_eq}
use Rattle.clap.specs.Facts.{Entry}
use Rattle.clap.specs.Matches.{first_value}
use Rattle.clap.specs.Walk.{row_of}
use Rattle.clap.specs.Words.{Row, Text, first_of, rows_of}
use Rattle.clap.specs.declared.parser.matches.Found.{Found}

first_text : (values : List (Bor Text)) → option_map (λ s. s.now) (slice_get values 0) ≡ slice_get (map (λ s. s.now) values) 0
first_text [] = refl
first_text (v ∷ vs) = refl

abbrev entry_text : Option Entry → Option Text
entry_text e = option_and_then (λ a. option_map (λ s. s.now) (slice_get a.vals.items 0)) (option_map (λ p. p.1) e)

abbrev row_value : Option Row → Option Text
row_value r = option_and_then (λ r. slice_get r.values 0) r

pick : (b : Bool) (x : Entry) (e : Option Entry) (r : Option Row) → entry_text e ≡ row_value r
    → entry_text (cond b (Some x) e) ≡ row_value (cond b (Some (row_of x)) r)
pick true x e r same = first_text x.1.vals.items
pick false x e r same = same

in_rows : (id : Text) (entries : List Entry) → entry_text (find (λ e. bytes_eq e.0.now id) entries)
    ≡ row_value (find (λ r. bytes_eq r.id id) (map row_of entries))
in_rows id [] = refl
in_rows id (x ∷ entries) = pick (bytes_eq x.0.now id) x (find (λ e. bytes_eq e.0.now id) entries)
    (find (λ r. bytes_eq r.id id) (map row_of entries)) (in_rows id entries)

pub first_in_rows : (found : Found) (id : Text) → first_value found id ≡ first_of id (rows_of found)
first_in_rows found id = in_rows id found.entries.items

-- what was met, by its name and its rows
abbrev both : {A : Type 0} → (A → Text) → (A → List Row) → A → Text × List Row
both name rows a = (name a, rows a)

pub together : {A B : Type 0} (name : A → Text) (rows : A → List Row) (met : Option A) (name_of : B → Text) (rows_in : B → List Row)
    (found : Option B) → option_map name_of found ≡ option_map name met
    → option_map rows_in found ≡ option_map (λ (p : Text × List Row). p.1) (option_map (both name rows) met)
    → option_map (both name_of rows_in) found ≡ option_map (both name rows) met
together name rows None name_of rows_in None named rowed = refl
together name rows None name_of rows_in (Some b) named rowed = cc
together name rows (Some a) name_of rows_in None named rowed = cc
together name rows (Some a) name_of rows_in (Some b) named rowed =
    let same_name : name_of b ≡ name a = cc in
    let same_rows : rows_in b ≡ rows a = cc in
    rw (same_name, same_rows) refl
