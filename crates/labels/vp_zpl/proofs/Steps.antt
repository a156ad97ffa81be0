-- A step by the open command is a step by the bytes.
use Rattle.std.proofs.lemmas.Grind.{common_steps}
use Rattle.std.proofs.Common.{◌≡◌, ℕ, true, false, List, [], ◌∷◌, ◌++◌, refl, append_assoc, arith}
use Rattle.vp_zpl.specs.declared.reading.Reading.{Reading}
use Rattle.vp_zpl.specs.declared.reader.ZplReader.{ZplReader}
use Rattle.vp_zpl.specs.Spelling.{is_sign, is_line_end}
use Rattle.vp_zpl.specs.Commands.{Cut, cut, wants_binary}
use Rattle.vp_zpl.specs.Items.{Item, items, given, at_end, all_ended}
use Rattle.vp_zpl.specs.Reader.{Stands, StandsIn, Goes, Ends, Advances}
use Rattle.vp_zpl.proofs.Cuts.{cut-push, items-is, with-byte}

pub gives-from : {reading : Reading} (shows : List Item) (new : ZplReader) (bytes : List ℕ) (c : ℕ) → Advances reading shows new (cut reading bytes) c → items reading (bytes ++ c ∷ []) ≡ items reading bytes ++ shows
gives-from shows new bytes c a = grind (arith, items-is, cut-push)

pub stands-from : {reading : Reading} (shows : List Item) (new : ZplReader) (bytes : List ℕ) (c : ℕ) → Advances reading shows new (cut reading bytes) c → Stands reading new (bytes ++ c ∷ [])
unfolding Stands
stands-from {reading} shows new bytes c a = rw (cut-push reading bytes c) a.stands

pub by_binary : {reading : Reading} (shows : List Item) (new : ZplReader) (s : Cut) (c : ℕ) → wants_binary reading s.open_one ≡ true → Goes reading shows new s.before s.open_one c → Advances reading shows new s c
by_binary shows new s c w g = grind (arith, common_steps)

pub by_more : {reading : Reading} (shows : List Item) (new : ZplReader) (s : Cut) (c : ℕ) → wants_binary reading s.open_one ≡ false → is_line_end c ≡ false → is_sign c ≡ false → Goes reading shows new s.before s.open_one c → Advances reading shows new s c
by_more shows new s c w e n g = grind (arith, common_steps)

pub by_line_end : {reading : Reading} (new : ZplReader) (s : Cut) (c : ℕ) → wants_binary reading s.open_one ≡ false → is_line_end c ≡ true → StandsIn reading new s.before s.open_one → Advances reading [] new s c
by_line_end new s c w e g = grind (arith, common_steps)

pub none_given : (reading : Reading) (before : List (List ℕ)) (c : ℕ) (xs : List Item) → xs ++ given reading before (c ∷ []) ≡ xs
unfolding given
none_given reading before c xs = grind (arith, common_steps)

pub ended-is : (reading : Reading) (command : List ℕ) (before : List (List ℕ)) → all_ended reading (command ∷ before) ≡ all_ended reading before ++ at_end reading before command
unfolding all_ended
ended-is reading command before = refl

pub by_sign : {reading : Reading} (shows : List Item) (new : ZplReader) (s : Cut) (c : ℕ) → wants_binary reading s.open_one ≡ false → is_line_end c ≡ false → is_sign c ≡ true → Ends reading shows new s.before s.open_one c → Advances reading shows new s c
by_sign shows new s c w e n g = grind (arith, with-byte, none_given, ended-is, append_assoc)
