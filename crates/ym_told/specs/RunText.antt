-- A run of bytes that are no frame and no answer, and what is told of it.
use Rattle.std.specs.Prelude.{ℕ, ◌+◌, ◌-◌, ◌^◌, ◌==◌, min, nat_lt, ◌&&◌, Bool, true, false, if◌then◌else◌, List, [], ◌∷◌, ◌++◌, length, take, flat_map, codes, decimal}
use Rattle.ym_told.specs.LineWords.{moment_words, way_words}
use Rattle.ym_told.specs.Runs.{escaped, is_printable}
use Rattle.ym_told.specs.declared.moment.CaptureMoment.{CaptureMoment}
use Rattle.ym_told.specs.declared.run.Run.{Run}
use Rattle.ym_told.specs.declared.run.Tail.{Tail}
use Rattle.ym_told.specs.declared.run.Tail.TheVariants.{Text, Gs, Nothing}
use Rattle.ym_told.specs.declared.way.Direction.{Direction}
use Rattle.ym_told.specs.declared.way.Direction.TheVariants as way

abbrev pub no_run : Run
no_run = record { going = false; way = way.There; shown = 0; count = 0; tail = Nothing }

abbrev pub same_way : Direction → Direction → Bool
same_way way.There way.There = true
same_way way.Back way.Back = true
same_way way.There way.Back = false
same_way way.Back way.There = false

abbrev pub goes_on : Run → Direction → Bool
goes_on run way = run.going && same_way run.way way

-- what came last of a run that the receiver wrote and that may go on
abbrev pub tail_back : Run → Tail
tail_back run = if goes_on run way.Back then run.tail else Nothing

abbrev pub printed_tail : ℕ → Tail
printed_tail byte = if is_printable byte then Text else Nothing

-- A G behind printed text is a letter of it. Where none stands before it, it may ask.
abbrev pub tail_behind : Tail → ℕ → Tail
tail_behind Text byte = printed_tail byte
tail_behind Gs byte = if byte == 0x47 then Gs else printed_tail byte
tail_behind Nothing byte = if byte == 0x47 then Gs else printed_tail byte

abbrev pub tails : Tail → List ℕ → Tail
tails tail [] = tail
tails tail (byte ∷ more) = tails (tail_behind tail byte) more

-- at most 64 bytes are shown, and a number of 64 bits counts all
abbrev pub longer : Run → Direction → List ℕ → Run
longer before way bytes = record {
  going = true;
  way = way;
  shown = min (before.shown + min (length bytes) (64 - before.shown)) (2 ^ 64 - 1);
  count = min (before.count + length bytes) (2 ^ 64 - 1);
  tail = tails before.tail bytes;
}

abbrev pub run_behind : Run → Direction → List ℕ → Run
run_behind run way bytes =
    if goes_on run way then longer run way bytes else longer no_run way bytes

-- the end of the line of a run, with its number of bytes where not all are shown
abbrev pub end_words : Run → List ℕ
end_words run =
    if run.going
    then if nat_lt run.shown run.count
    then codes " .. " ++ (decimal run.count ++ (codes " bytes" ++ 10 ∷ []))
    else 10 ∷ []
    else []

abbrev pub part_words : Run → CaptureMoment → Direction → List ℕ → List ℕ
part_words run at way bytes =
    if goes_on run way
    then flat_map escaped (take (64 - run.shown) bytes)
    else end_words run ++ (moment_words at.0 ++ (way_words way ++ (codes "no frame: "
    ++ flat_map escaped (take 64 bytes))))
