-- The lines of a unit list its bytes.
use Rattle.std.proofs.Common.{◌≡◌, ℕ, ◌+◌, ◌-◌, ◌*◌, ◌<◌, ◌≤◌, eqb, true, false, Option, Some, None, List, [], ◌∷◌, ◌++◌, length, take, get_or, refl, sym, ap, ◌∙◌, arith}
use Rattle.std.proofs.lemmas.Grind.{common_steps}
use Rattle.std.specs.Prelude.{map, codes}
use Rattle.std.specs.List.{AllByRecursion}
use Rattle.std.proofs.lemmas.Bool.{eqb-true}
use Rattle.std.proofs.lemmas.Bool.Decides.{nat_tests}
use Rattle.std.proofs.lemmas.List.{append-nil, take_all}
use Rattle.vp_dots.specs.Listing.{listed}
use Rattle.vp_esc.specs.declared.reading.Reading.{Reading}
use Rattle.vp_esc.specs.declared.item.EscItem.{EscItem}
use Rattle.vp_esc.specs.declared.item.EscItem.TheVariants as items
use Rattle.vp_esc.specs.declared.item.Lead.{Lead}
use Rattle.vp_esc.specs.declared.item.Lead.TheVariants.{Esc, Gs}
use Rattle.vp_esc.specs.declared.item.RasterScale.{RasterScale}
use Rattle.vp_esc.specs.declared.item.ColumnMode.{ColumnMode}
use Rattle.vp_esc.specs.declared.item.ColumnMode.TheVariants.{Single24, Double24}
use Rattle.vp_esc.specs.declared.command.Command.TheVariants.{Plain, Columns, Raster, Symbol, Graphics, ReadPast}
use Rattle.vp_esc.specs.declared.command.ReadPast.{ReadPast as ReadPastCommand}
use Rattle.vp_esc.specs.declared.command.ReadPast.TheVariants as past
use Rattle.vp_esc.specs.declared.command.Plain.{Plain as PlainCommand}
use Rattle.vp_esc.specs.Values.{spelled, is_column_mode, column_mode_of, column_bytes, scale_of}
use Rattle.vp_esc.specs.Units.{needs_more, plain_item, stops_item, tall_columns, columns, raster_bytes, symbol_data, symbol_unit, given_behind, unused, past_data}
use Rattle.vp_esc.specs.Command.{past_len}
use Rattle.vp_esc.specs.Laws.{all_bytes}
use Rattle.vp_esc.specs.Lines.{lead_word, two_bytes, symbol_bytes, line_of}
use Rattle.vp_esc.specs.Listings.{may_skip, Lists}
use Rattle.vp_esc.specs.Table.{IsPlain, IsStops, IsColumns, IsRaster, IsToZero, IsCountedSymbol, IsGraphics, IsReadPast}
use Rattle.vp_esc.proofs.Bytes.{past_front}
use Rattle.vp_esc.proofs.Named.{IsNamed}

abbrev pub IsBytes : List ℕ → Type 0
IsBytes bytes = AllByRecursion (λ b. b < 256) bytes

-- one line of a front
pub front_line : (lead : Lead) (front rest bytes : List ℕ) (item : EscItem) → bytes ≡ front ++ rest → may_skip lead bytes ≡ true
    → line_of item ≡ listed (lead_word lead) front → Lists lead bytes (map line_of (item ∷ []))
front_line lead front rest bytes item b s e =
    record {
      head = front;
      word = [];
      parts = [];
      skipped = rest;
      bytes_are = b ∙ ap (λ (t : List ℕ). t ++ rest) (sym (append-nil front));
      lines_are = ap (λ l. l ∷ []) e;
      whole = λ n. let different : true ≡ false = sym s ∙ n in cc;
    }

-- a line for the head, and one for each part
pub part_lines : (lead : Lead) (head word bytes : List ℕ) (parts : List (List ℕ)) (item : EscItem) (more : List EscItem) → bytes ≡ head ++ all_bytes parts
    → line_of item ≡ listed (lead_word lead) head → map line_of more ≡ map (λ part. listed word part) parts
    → Lists lead bytes (map line_of (item ∷ more))
part_lines lead head word bytes parts item more b e f = grind (arith, append-nil)

-- one line
pub one_line : (lead : Lead) (bytes : List ℕ) (item : EscItem) → line_of item ≡ listed (lead_word lead) bytes → Lists lead bytes (map line_of (item ∷ []))
one_line lead bytes item e = part_lines lead bytes [] bytes [] item [] (sym (append-nil bytes)) e refl

pub two_is : (l h : ℕ) → l < 256 → h < 256 → two_bytes (l + 256 * h) ≡ l ∷ h ∷ []
two_is l h p q = grind arith

pub plain_listed : (lead : Lead) (name : ℕ) (p : PlainCommand) (args : List ℕ) → IsNamed (Plain p) lead name → IsPlain p args → IsBytes args
    → line_of (plain_item lead name p args) ≡ listed (lead_word lead) (name ∷ args)
plain_listed lead name p args i h b = grind (arith, common_steps, two_is, nat_tests)

-- the stops, and the byte that ended them
pub stops_listed : (args : List ℕ) → IsStops args → line_of (stops_item args) ≡ listed (lead_word Esc) (0x44 ∷ args)
stops_listed args h = grind (arith, common_steps, append-nil)

-- each byte in a line
pub singles : List ℕ → List (List ℕ)
singles bytes = map (λ b. b ∷ []) bytes

pub all_singles : (bytes : List ℕ) → all_bytes (singles bytes) ≡ bytes
unfolding singles
all_singles [] = refl
all_singles (b ∷ bytes) = ap (λ (t : List ℕ). b ∷ t) (all_singles bytes)

pub single_lines : (item : ℕ → EscItem) (word bytes : List ℕ)
    → ((b : ℕ) → line_of (item b) ≡ listed word (b ∷ []))
    → map line_of (map item bytes) ≡ map (λ part. listed word part) (singles bytes)
unfolding singles
single_lines item word [] one = refl
single_lines item word (b ∷ bytes) one = let e = one b in let more = single_lines item word bytes one in cc

-- each three bytes in a line
triples : List ℕ → List (List ℕ)
triples (a ∷ b ∷ c ∷ bytes) = (a ∷ b ∷ c ∷ []) ∷ triples bytes
triples _ = []

all_triples : (bytes : List ℕ) (n : ℕ) → length bytes ≡ 3 * n → all_bytes (triples bytes) ≡ bytes
unfolding triples
all_triples (a ∷ b ∷ c ∷ bytes) n e = ap (λ (t : List ℕ). a ∷ b ∷ c ∷ t) (all_triples bytes (n - 1) (omega arith))
all_triples bytes n e = grind arith

triple_lines : (bytes : List ℕ) → map line_of (tall_columns bytes) ≡ map (λ part. listed (codes "column") part) (triples bytes)
unfolding triples
triple_lines (a ∷ b ∷ c ∷ bytes) = ap (λ ls. listed (codes "column") (a ∷ b ∷ c ∷ []) ∷ ls) (triple_lines bytes)
triple_lines bytes = refl

record InParts (bytes : List ℕ) (lines : List (List ℕ)) (word : List ℕ) : Type 0 where
  parts : List (List ℕ)
  bytes_are : bytes ≡ all_bytes parts
  lines_are : lines ≡ map (λ part. listed word part) parts

columns_listed : (mode : ColumnMode) (bytes : List ℕ) (n : ℕ) → length bytes ≡ column_bytes mode * n → InParts bytes (map line_of (columns mode bytes)) (codes "column")
columns_listed Single24 bytes n e = record { parts = triples bytes; bytes_are = sym (all_triples bytes n e); lines_are = triple_lines bytes }
columns_listed Double24 bytes n e = record { parts = triples bytes; bytes_are = sym (all_triples bytes n e); lines_are = triple_lines bytes }
columns_listed mode bytes n e =
    let lines = single_lines items.Column8 (codes "column") bytes (λ b. refl) in
    record { parts = singles bytes; bytes_are = sym (all_singles bytes); lines_are = lines }

pub columns_list : (reading : Reading) (args : List ℕ) → IsColumns args → is_column_mode (get_or args 0 0) ≡ true → IsBytes args → Lists Esc (0x2A ∷ args) (map line_of (given_behind reading Esc 0x2A Columns args))
unfolding given_behind
columns_list reading args h mode b =
    let mode_is : is_column_mode h.m ≡ true = rw h.bytes at mode in
    let parts = columns_listed (column_mode_of h.m) h.columns (h.nl + 256 * h.nh) h.count in
    rw h.bytes (part_lines Esc (0x2A ∷ h.m ∷ h.nl ∷ h.nh ∷ []) (codes "column") (0x2A ∷ h.m ∷ h.nl ∷ h.nh ∷ h.columns) parts.parts
    (items.Columns (column_mode_of h.m) (h.nl + 256 * h.nh)) (columns (column_mode_of h.m) h.columns)
    (ap (λ (t : List ℕ). 0x2A ∷ h.m ∷ h.nl ∷ h.nh ∷ t) parts.bytes_are) (grind (arith, eqb-true, two_is)) parts.lines_are)

by_scale : (head dots : List ℕ) (m w n : ℕ) (scale : Option RasterScale) → may_skip Gs (head ++ dots) ≡ true
    → line_of (items.Raster (spelled m scale) w n) ≡ listed (codes "gs") head
    → Lists Gs (head ++ dots) (map line_of (items.Raster (spelled m scale) w n ∷ raster_bytes scale dots))
by_scale head dots m w n None s e = front_line Gs head dots (head ++ dots) (items.Raster (spelled m None) w n) refl s e
by_scale head dots m w n (Some scale) s e =
    part_lines Gs head (codes "byte") (head ++ dots) (singles dots) (items.Raster (spelled m (Some scale)) w n) (map (λ b. items.RasterByte b) dots)
    (ap (λ (t : List ℕ). head ++ t) (sym (all_singles dots))) e
    (single_lines items.RasterByte _ dots (λ b. refl))

pub raster_list : (reading : Reading) (args : List ℕ) → IsRaster args → eqb (get_or args 0 0) 0x30 ≡ true → IsBytes args → Lists Gs (0x76 ∷ args) (map line_of (given_behind reading Gs 0x76 Raster args))
unfolding given_behind
raster_list reading args h z b =
    let zero : h.zero ≡ 0x30 = eqb-true h.zero 0x30 (rw h.bytes at z) in
    rw (h.bytes, zero) (by_scale (0x76 ∷ 0x30 ∷ h.m ∷ h.xl ∷ h.xh ∷ h.yl ∷ h.yh ∷ []) h.dots h.m (h.xl + 256 * h.xh) (h.yl + 256 * h.yh) (scale_of h.m) refl
    (grind (arith, two_is)))

pub graphics_list : (reading : Reading) (args : List ℕ) → IsGraphics args → Lists Gs (0x38 ∷ args) (map line_of (given_behind reading Gs 0x38 Graphics args))
unfolding given_behind
graphics_list reading args h =
    rw h.bytes (front_line Gs (0x38 ∷ h.x ∷ h.p1 ∷ h.p2 ∷ h.p3 ∷ h.p4 ∷ []) h.parameters (0x38 ∷ h.x ∷ h.p1 ∷ h.p2 ∷ h.p3 ∷ h.p4 ∷ h.parameters)
    (items.WithoutEffect Gs (record { items = 0x38 ∷ h.x ∷ h.p1 ∷ h.p2 ∷ h.p3 ∷ h.p4 ∷ [] })) refl refl refl)

-- up to 255 bytes of data are kept
symbol_line : (reading : Reading) (kind : ℕ) (bytes : List ℕ) → length bytes ≤ 255 → line_of (symbol_unit reading kind bytes) ≡ listed (codes "gs") (symbol_bytes kind bytes)
symbol_line reading kind bytes l = ap (λ (t : List ℕ). listed (codes "gs") (symbol_bytes kind t)) (take_all 255 bytes l)

-- the item of these arguments
symbol_item : (reading : Reading) (args cs : List ℕ) (kind : ℕ) → get_or args 0 0 ≡ kind → symbol_data args ≡ cs → length cs ≤ 255 → needs_more Symbol args ≡ false
    → symbol_bytes kind cs ≡ 0x6B ∷ args → Lists Gs (0x6B ∷ args) (map line_of (given_behind reading Gs 0x6B Symbol args))
unfolding given_behind
symbol_item reading args cs kind k d l n b = rw n (one_line Gs (0x6B ∷ args) (symbol_unit reading (get_or args 0 0) (symbol_data args)) (line args cs kind k d l b))
  where
    line : (args cs : List ℕ) (kind : ℕ) → get_or args 0 0 ≡ kind → symbol_data args ≡ cs → length cs ≤ 255 → symbol_bytes kind cs ≡ 0x6B ∷ args
        → line_of (symbol_unit reading (get_or args 0 0) (symbol_data args)) ≡ listed (codes "gs") (0x6B ∷ args)
    line args cs kind k d l b = ap (λ (m : ℕ). line_of (symbol_unit reading m (symbol_data args))) k ∙ ap (λ (t : List ℕ). line_of (symbol_unit reading kind t)) d
        ∙ symbol_line reading kind cs l ∙ ap (λ (t : List ℕ). listed (codes "gs") t) b

pub to_zero_list : (reading : Reading) (args : List ℕ) → IsToZero args → length args ≤ 257 → needs_more Symbol args ≡ false → Lists Gs (0x6B ∷ args) (map line_of (given_behind reading Gs 0x6B Symbol args))
to_zero_list reading args h l n = grind (arith, common_steps, symbol_item)

pub counted_list : (reading : Reading) (args : List ℕ) → IsCountedSymbol args → IsBytes args → needs_more Symbol args ≡ false → Lists Gs (0x6B ∷ args) (map line_of (given_behind reading Gs 0x6B Symbol args))
counted_list reading args h b n = grind (arith, symbol_item)

-- a command that is read past: its head in a line, and no data where none may be skipped
past_of : (reading : Reading) (lead : Lead) (name : ℕ) (past : ReadPastCommand) (args : List ℕ) (h : IsReadPast past args)
    → Lists lead (name ∷ (h.head ++ h.parameters)) (map line_of (unused lead name h.head ∷ []))
    → Lists lead (name ∷ args) (map line_of (given_behind reading lead name (ReadPast past) args))
unfolding given_behind
past_of reading lead name past args h l =
    let front : take (past_len past (h.head ++ h.parameters)) (h.head ++ h.parameters) ≡ h.head =
    past_front past h.head h.parameters (omega (arith, h.head_count)) ∙ take_all (past_len past h.head) h.head (omega (arith, h.head_count)) in
    rw h.bytes (rw front l)

no_data : (xs : List ℕ) → length xs ≡ 0 → xs ≡ []
no_data xs h = grind (arith, common_steps)

pub past_list : (reading : Reading) (lead : Lead) (name : ℕ) (k : ReadPastCommand) (args : List ℕ) → IsNamed (ReadPast k) lead name → IsReadPast k args
    → Lists lead (name ∷ args) (map line_of (given_behind reading lead name (ReadPast k) args))
past_list reading lead name k args i h = past_of reading lead name k args h (by_past k i h.count)
  where
    skips : ((args : List ℕ) → may_skip lead (name ∷ args) ≡ true) → Lists lead (name ∷ (h.head ++ h.parameters)) (map line_of (unused lead name h.head ∷ []))
    skips s = front_line lead (name ∷ h.head) h.parameters (name ∷ (h.head ++ h.parameters)) (unused lead name h.head) refl (s (h.head ++ h.parameters)) refl

    none : length h.parameters ≡ 0 → Lists lead (name ∷ (h.head ++ h.parameters)) (map line_of (unused lead name h.head ∷ []))
    none e =
        let whole : h.head ++ h.parameters ≡ h.head = ap (λ xs. h.head ++ xs) (no_data h.parameters e) ∙ append-nil h.head in
        rw whole (one_line lead (name ∷ h.head) (unused lead name h.head) refl)

    by_past : (k : ReadPastCommand) → IsNamed (ReadPast k) lead name → length h.parameters ≡ past_data k h.head
        → Lists lead (name ∷ (h.head ++ h.parameters)) (map line_of (unused lead name h.head ∷ []))
    by_past past.Family i c = skips i
    by_past past.StoredImage i c = skips i
    by_past past.ColumnImage i c = skips i
    by_past past.TwoByteCell i c = skips i
    by_past past.UserBytes i c = skips i
    by_past past.Counter i c = none c
    by_past past.Maintenance i c = none c
    by_past past.Recovery i c = none c
    by_past past.Cheque i c = none c
    by_past past.RealTimeRequest i c = none c
