-- The lines of a unit: of a byte alone, and of a command.
use Rattle.std.proofs.Common.{◌≡◌, ◌⊎◌, ℕ, Bool, ◌||◌, ltb, ◌<◌, ◌≤◌, true, false, Option, Some, None, List, [], ◌∷◌, length, get_or, refl, sym, ap, ◌∙◌, arith, ⊎_elim}
use Rattle.std.specs.Prelude.{map}
use Rattle.std.proofs.lemmas.Bool.{cases_lt}
use Rattle.std.proofs.lemmas.Bool.Decides.{nat_tests}
use Rattle.vp_esc.specs.declared.reading.Reading.{Reading}
use Rattle.vp_esc.specs.declared.reading.Reading.TheVariants.{Whole}
use Rattle.vp_esc.specs.declared.item.Lead.{Lead}
use Rattle.vp_esc.specs.declared.command.Command.{Command}
use Rattle.vp_esc.specs.declared.command.Command.TheVariants.{Plain, TabStops, Columns, Raster, Symbol, Function, Graphics, ReadPast}
use Rattle.vp_esc.specs.declared.item.Lead.TheVariants.{Esc}
use Rattle.vp_esc.specs.Command.{lead_of, lead_byte, command_of, head_len, lists, is_listed}
use Rattle.vp_esc.specs.Units.{is_unfinished, needs_more, given_behind, given, unused, plain_item, stops_item}
use Rattle.vp_esc.specs.Laws.{IsUnit}
use Rattle.vp_esc.specs.Lines.{line_of}
use Rattle.vp_esc.specs.Listings.{line_of_byte, is_long_symbol, Lists}
use Rattle.vp_esc.specs.Table.{IsToZero, IsCountedSymbol, IsArguments, IsCommand, IsAlone, IsPassedOver}
use Rattle.vp_esc.proofs.Fronts.{lead_of-lead_byte, Front, front_is, none_is}
use Rattle.vp_esc.proofs.Heads.{IsHead, heads, given_is}
use Rattle.vp_esc.proofs.Rows.{unknown_is_none}
use Rattle.vp_esc.proofs.OnlyRows.{only_rows_lem}
use Rattle.vp_esc.proofs.Named.{IsNamed, named_so}
use Rattle.vp_esc.proofs.Listed.{IsBytes, one_line, plain_listed, stops_listed, columns_list, raster_list, to_zero_list, counted_list, graphics_list, past_list}
use Rattle.vp_esc.proofs.QrListed.{function_list}

pub byte_line : (reading : Reading) (b : ℕ) → lead_of b ≡ None → map line_of (given reading (b ∷ [])) ≡ line_of_byte b ∷ []
unfolding given
byte_line reading b e = grind arith

or_none : (b : Bool) → b || false ≡ true → b ≡ true
or_none b e = grind arith

by_command : (reading : Reading) (lead : Lead) (name : ℕ) (k : Command) (args : List ℕ) → IsNamed k lead name → lists Whole k (get_or args 0 0) ≡ true → IsArguments k args → IsBytes args
    → needs_more k args ≡ false → is_long_symbol lead (name ∷ args) ≡ false → Lists lead (name ∷ args) (map line_of (given_behind reading lead name k args))
unfolding given_behind
by_command reading lead name (Plain p) args i l a b n s = one_line lead (name ∷ args) (plain_item lead name p args) (plain_listed lead name p args i a b)
by_command reading lead name TabStops args i l a b n s = rw (i.0, i.1, n) (one_line Esc (0x44 ∷ args) (stops_item args) (stops_listed args a))
by_command reading lead name Columns args i l a b n s = rw (i.0, i.1) (columns_list reading args a (or_none _ l) b)
by_command reading lead name Raster args i l a b n s = rw (i.0, i.1) (raster_list reading args a (or_none _ l) b)
by_command reading lead name Symbol args i l a b n s =
    let short : ltb 257 (length args) ≡ false = rw (i.0, i.1) at s in
    rw (i.0, i.1) (⊎_elim
    (λ (z : IsToZero args). to_zero_list reading args z (grind (arith, nat_tests)) n)
    (λ (c : IsCountedSymbol args). counted_list reading args c b n)
    a)
by_command reading lead name Function args i l a b n s = rw (i.0, i.1) (function_list reading args a b)
by_command reading lead name Graphics args i l a b n s = rw (i.0, i.1) (graphics_list reading args a)
by_command reading lead name (ReadPast past) args i l a b n s = past_list reading lead name past args i a

-- a whole command is of the table, and its head is there
record IsWhole (reading : Reading) (lead : Lead) (name : ℕ) (k : Command) (args front : List ℕ) : Type 0 where
  gives : given reading front ≡ given_behind reading lead name k args
  needs : needs_more k args ≡ false

whole_is : (reading : Reading) (lead : Lead) (name : ℕ) (k : Command) (args front : List ℕ) → command_of reading lead name ≡ Some k → is_listed reading k args ≡ true
    → front ≡ lead_byte lead ∷ name ∷ args → is_unfinished reading front ≡ false → IsWhole reading lead name k args front
whole_is reading lead name k args front e l b w =
    let f : Front reading front lead name k args = front_is reading lead name k args front e b in
    let needs : needs_more k args ≡ false = rw l at (sym f.opens ∙ w) in
    record {
      gives = f.gives ∙ rw l (given_is reading lead name k args (has_head needs));
      needs = needs;
    }
  where
    has_head : needs_more k args ≡ false → head_len k args ≤ length args
    has_head n = ⊎_elim
        (λ (h : length args < head_len k args). let i : IsHead reading lead name k args = heads reading lead name k args h in let m : needs_more k args ≡ true = i.needs in let no : true ≡ false = sym m ∙ n in cc)
        (λ (h : head_len k args ≤ length args). h)
        (cases_lt (length args) (head_len k args))

-- A first argument of the table.
first_listed : (reading : Reading) (k : Command) (args : List ℕ) → is_listed reading k args ≡ true → needs_more k args ≡ false → lists Whole k (get_or args 0 0) ≡ true
unfolding needs_more
first_listed reading k args l n = grind (arith, nat_tests)

pub command_lines : (reading : Reading) (lead : Lead) (bytes : List ℕ) → IsBytes bytes → IsUnit reading (lead_byte lead ∷ bytes) → is_long_symbol lead bytes ≡ false
    → Lists lead bytes (map line_of (given reading (lead_byte lead ∷ bytes)))
command_lines reading lead bytes b u s = ⊎_elim
    (λ (a : IsAlone (lead_byte lead ∷ bytes)). no_lead a)
    (λ (c : IsCommand reading (lead_byte lead ∷ bytes) ⊎ IsPassedOver reading (lead_byte lead ∷ bytes)). ⊎_elim
    (λ (c : IsCommand reading (lead_byte lead ∷ bytes)). of_command c)
    (λ (p : IsPassedOver reading (lead_byte lead ∷ bytes)). of_none p) c)
    (only_rows_lem reading (lead_byte lead ∷ bytes) u)
  where
    no_lead : IsAlone (lead_byte lead ∷ bytes) → Lists lead bytes (map line_of (given reading (lead_byte lead ∷ bytes)))
    no_lead a = grind (arith, lead_of-lead_byte)

    same_lead : (other : Lead) (rest : List ℕ) → lead_byte lead ∷ bytes ≡ lead_byte other ∷ rest → (lead ≡ other) × (bytes ≡ rest)
    same_lead other rest e =
        let first : lead_byte lead ≡ lead_byte other = cc in
        let leads : ◌≡◌ {A = Option Lead} (Some lead) (Some other) = sym (lead_of-lead_byte lead) ∙ ap lead_of first ∙ lead_of-lead_byte other in
        (cc, cc)

    of_command : IsCommand reading (lead_byte lead ∷ bytes) → Lists lead bytes (map line_of (given reading (lead_byte lead ∷ bytes)))
    of_command c =
        let same = same_lead c.lead (c.name ∷ c.args) c.bytes_are in
        let whole : IsWhole reading c.lead c.name c.command c.args (lead_byte lead ∷ bytes) =
        whole_is reading c.lead c.name c.command c.args (lead_byte lead ∷ bytes) c.named c.listed c.bytes_are u.whole in
        let short : is_long_symbol c.lead (c.name ∷ c.args) ≡ false = ap (λ l. is_long_symbol l (c.name ∷ c.args)) (sym same.0) ∙ ap (is_long_symbol lead) (sym same.1) ∙ s in
        let all : IsBytes (c.name ∷ c.args) = rw (same.1) at b in
        let first = first_listed reading c.command c.args c.listed whole.needs in
        let lists = by_command reading c.lead c.name c.command c.args (named_so reading c.lead c.name c.command c.named) first c.arguments all.1 whole.needs short in
        rw whole.gives (rw (same.0, same.1) lists)

    of_none : IsPassedOver reading (lead_byte lead ∷ bytes) → Lists lead bytes (map line_of (given reading (lead_byte lead ∷ bytes)))
    of_none p =
        let same = same_lead p.lead (p.name ∷ p.args) p.bytes_are in
        let here = none_is Whole p.lead p.name p.args (lead_byte lead ∷ bytes) (record { bytes = p.bytes_are; unknown = unknown_is_none p.lead p.name p.args _ refl p.unknown }) in
        rw (p.whole, here.gives) (rw (same.0, same.1) (one_line p.lead (p.name ∷ p.args) (unused p.lead p.name p.args) refl))
