-- Packets, one behind another, and what is told of them.
use Rattle.std.proofs.Common.{◌≡◌, ◌∙◌, ◌+◌, ◌-◌, ◌<◌, ◌≤◌, inl, inr, ◌++◌, [], ℕ, Bool, List, length, take, drop, min, Option, Some, Ok, Err, refl, sym, subst, ap, append_assoc, arith, take-append-drop, length-take-le, length-take, length-drop, drop-drop}
use Rattle.std.specs.Prelude.{◌≢◌}
use Rattle.std.proofs.lemmas.List.{append-nil, take_all, take-append-le}
use Rattle.std.specs.Io.KnownBytes.{Consumes, IsAtEnd}
use Rattle.ym_capture.specs.CaptureHead.{form_of}
use Rattle.ym_capture.specs.OneConnection.{behind_packet}
use Rattle.ym_capture.specs.declared.connection.Connection.{Connection}
use Rattle.ym_capture.specs.declared.fault.CaptureFault.{CaptureFault}
use Rattle.ym_capture.specs.declared.fault.CaptureFault.TheVariants.{Cut, Long}
use Rattle.ym_capture.specs.declared.head.Form.{Form}
use Rattle.ym_capture.specs.declared.head.CaptureKind.{CaptureKind}
use Rattle.ym_capture.specs.declared.head.CaptureKind.TheVariants as kinds
use Rattle.ym_capture.specs.declared.head.ByteOrder.{ByteOrder}
use Rattle.ym_capture.specs.declared.head.TheConstants.{HEAD, PACKET_HEAD, MOST_PACKET}
use Rattle.ym_capture.specs.declared.head.Part.{Part}
use Rattle.ym_explain.specs.declared.verdict.Verdict.{Verdict}
use Rattle.ym_explain.specs.declared.verdict.Ways.TheVariants as ways
use Rattle.ym_told.specs.declared.way.Direction.{Direction}
use Rattle.ym_inspect.specs.CaptureTold.{Ends, Tells, nothing}
use Rattle.ym_inspect.specs.FirstBytes.{Begins}
use Rattle.ym_inspect.specs.Inspecting.{Parts, nothing_buffered}
use Rattle.ym_inspect.specs.PcapRead.{Captured, begins, packet, IsWrong, ends_in_head, ends_in_body, too_long, is_wrong, Stops, at_head, at_link, at_packet, Reached, reached, at_first, length_in, behind_body, brings, SaysPosition, Underway, PacketsTold, TellsOn, StopsWith, IsOpen, TellsAllOf, TellsPcap, FaultOfKind}
use Rattle.ym_inspect.specs.Recorded.{capped}
use Rattle.ym_inspect.specs.declared.fault.InspectFault.{InspectFault}
use Rattle.ym_inspect.specs.declared.fault.RecordFault.{RecordFault}
use Rattle.ym_inspect.specs.declared.fault.InspectFault.TheVariants as fault
use Rattle.ym_inspect.proofs.TellLemmas.{consumed, tells_on}

-- ---- Lists

-- a list, cut twice
cut : (m n : ℕ) (xs : List ℕ) → (take m xs ++ take n (drop m xs)) ++ drop (m + n) xs ≡ xs
cut m n xs =
    append_assoc (take m xs) (take n (drop m xs)) (drop (m + n) xs)
    ∙ ap (λ (ys : List ℕ). take m xs ++ (take n (drop m xs) ++ ys)) (sym (drop-drop n m xs))
    ∙ ap (λ (ys : List ℕ). take m xs ++ ys) (take-append-drop n (drop m xs))
    ∙ take-append-drop m xs

enough : (m n : ℕ) (xs : List ℕ) → m + n ≤ length xs → m ≤ length xs
enough m n xs h = omega (arith, h)

enough_behind : (m n : ℕ) (xs : List ℕ) → m + n ≤ length xs → n ≤ length (drop m xs)
enough_behind m n xs h =
    let e : length (drop m xs) ≡ length xs - m = length-drop m xs in omega (arith, h, e)

-- ---- A packet

abbrev body_in : ℕ → List ℕ → List ℕ
body_in count buffered = take count (drop PACKET_HEAD buffered)

head_length : (count : ℕ) (buffered : List ℕ) → PACKET_HEAD + count ≤ length buffered → length (take PACKET_HEAD buffered) ≡ PACKET_HEAD
head_length count buffered there = length-take-le PACKET_HEAD buffered (enough PACKET_HEAD count buffered there)

body_length : (count : ℕ) (buffered : List ℕ) → PACKET_HEAD + count ≤ length buffered → length (body_in count buffered) ≡ count
body_length count buffered there = length-take-le count (drop PACKET_HEAD buffered) (enough_behind PACKET_HEAD count buffered there)

-- a packet more was told
pub packet_told :
    (old new : Underway) (count : ℕ) (out after : Option (List ℕ)) (behind : Connection)
    → PACKET_HEAD + count ≤ length old.buffered → count ≡ length_in old.at.form (take PACKET_HEAD old.buffered)
    → behind_packet old.at.connection (body_in count old.buffered) ≡ Ok behind
    → Tells old.parts out (brings old.at (body_in count old.buffered) behind) new.parts after
    → new.at ≡ reached old.at.form behind (capped (old.at.position + (PACKET_HEAD + count)))
    → new.buffered ≡ drop (PACKET_HEAD + count) old.buffered → TellsOn [] old out new after
packet_told old new count out after behind there stated ok tells at_is buffered_is = λ turned order part text before so.
    let head : List ℕ = take PACKET_HEAD old.buffered in
    let body : List ℕ = body_in count old.buffered in
    let len : length body ≡ count = body_length count old.buffered there in
    let at_body : behind_body old.at body behind ≡ new.at =
    ap (λ (n : ℕ). reached old.at.form behind (capped (old.at.position + (PACKET_HEAD + n)))) len ∙ sym at_is in
    let prefix : List ℕ = so.prefix ++ (head ++ body) in
    let read : List (Direction × ℕ) = so.read ++ brings old.at body behind in
    record {
      prefix = prefix;
      read = read;
      split = append-nil text ∙ so.split ∙ ap (λ (xs : List ℕ). so.prefix ++ xs) (sym (cut PACKET_HEAD count old.buffered))
          ∙ sym (append_assoc so.prefix (head ++ body) (drop (PACKET_HEAD + count) old.buffered)) ∙ ap (λ (xs : List ℕ). prefix ++ xs) (sym buffered_is);
      captured = subst (λ (at : Reached). Captured turned order part prefix at read) at_body
          (packet turned order part so.prefix old.at so.read head body behind so.captured (head_length count old.buffered there) (len ∙ stated) ok);
      tells = tells_on nothing_buffered before so.read old.parts out (brings old.at body behind) new.parts after so.tells tells;
    }

-- where the rest of what was read, and more, is wrong
stops :
    (turned : Bool) (order : ByteOrder) (part : Part) (text more rest : List ℕ) (before : Option (List ℕ)) (now : Underway) (out : Option (List ℕ)) (why : CaptureFault)
    → PacketsTold turned order part text before now out → rest ≡ now.buffered ++ more → IsWrong now.at rest why → Stops turned order part (text ++ more) now.at.position why
stops turned order part text more rest before now out why so e wrong = at_packet turned order part (text ++ more) now.at.position why (record {
  prefix = so.prefix;
  rest = rest;
  at = now.at;
  read = so.read;
  split = ap (λ (xs : List ℕ). xs ++ more) so.split ∙ append_assoc so.prefix now.buffered more ∙ ap (λ (xs : List ℕ). so.prefix ++ xs) (sym e);
  captured = so.captured;
  position_is = refl;
  wrong = wrong;
})

-- a packet is wrong
pub packet_wrong :
    (old : Underway) (count : ℕ) (out : Option (List ℕ)) (why : CaptureFault) (found : InspectFault)
    → PACKET_HEAD + count ≤ length old.buffered → count ≡ length_in old.at.form (take PACKET_HEAD old.buffered)
    → behind_packet old.at.connection (body_in count old.buffered) ≡ Err why → found ≡ fault.Packet old.at.position why
    → (more : List ℕ) → StopsWith more old out found
packet_wrong old count out why found there stated wrong is = λ more turned order part text before so.
    let head : List ℕ = take PACKET_HEAD old.buffered in
    let body : List ℕ = body_in count old.buffered in
    let tail : List ℕ = drop (PACKET_HEAD + count) old.buffered in
    let whole : head ++ (body ++ (tail ++ more)) ≡ old.buffered ++ more =
    sym (append_assoc head body (tail ++ more)) ∙ sym (append_assoc (head ++ body) tail more) ∙ ap (λ (xs : List ℕ). xs ++ more) (cut PACKET_HEAD count old.buffered) in
    subst (λ (f : InspectFault). SaysPosition turned order part f (text ++ more)) (sym is)
    (stops turned order part text more (head ++ (body ++ (tail ++ more))) before old out why so whole
    (is_wrong old.at head body (tail ++ more) why (head_length count old.buffered there) (body_length count old.buffered there ∙ stated) wrong))

-- a packet states too many bytes
pub packet_long :
    (old : Underway) (out : Option (List ℕ)) (found : InspectFault) → PACKET_HEAD ≤ length old.buffered
    → MOST_PACKET < length_in old.at.form (take PACKET_HEAD old.buffered) → found ≡ fault.Packet old.at.position Long
    → (more : List ℕ) → StopsWith more old out found
packet_long old out found there long is = λ more turned order part text before so.
    let head : List ℕ = take PACKET_HEAD old.buffered in
    let tail : List ℕ = drop PACKET_HEAD old.buffered in
    let whole : head ++ (tail ++ more) ≡ old.buffered ++ more =
    sym (append_assoc head tail more) ∙ ap (λ (xs : List ℕ). xs ++ more) (take-append-drop PACKET_HEAD old.buffered) in
    subst (λ (f : InspectFault). SaysPosition turned order part f (text ++ more)) (sym is)
    (stops turned order part text more (head ++ (tail ++ more)) before old out Long so whole
    (too_long old.at head (tail ++ more) (length-take-le PACKET_HEAD old.buffered there) long))

-- it ends in a packet
cut_wrong : (now : Underway) → IsOpen now → now.buffered ≢ [] → IsWrong now.at now.buffered Cut
cut_wrong now unfinished some = elim unfinished [
  | inl short ↦ ends_in_head now.at now.buffered some short
  | inr h ↦ let head : List ℕ = take PACKET_HEAD now.buffered in
      let body : List ℕ = drop PACKET_HEAD now.buffered in
      let e : length body ≡ length now.buffered - PACKET_HEAD = length-drop PACKET_HEAD now.buffered in
      let le : PACKET_HEAD ≤ length now.buffered = h.0 in
      let lt : length now.buffered < PACKET_HEAD + length_in now.at.form head = h.1 in
      subst (λ (xs : List ℕ). IsWrong now.at xs Cut) (take-append-drop PACKET_HEAD now.buffered)
      (ends_in_body now.at head body (length-take-le PACKET_HEAD now.buffered le) (omega (arith, e, le, lt)))
]

pub ends_cut :
    (now : Underway) (out : Option (List ℕ)) (found : InspectFault) → IsOpen now → now.buffered ≢ [] → found ≡ fault.Packet now.at.position Cut → StopsWith [] now out found
ends_cut now out found unfinished some is = λ turned order part text before so.
    subst (λ (f : InspectFault). SaysPosition turned order part f (text ++ [])) (sym is)
    (stops turned order part text [] now.buffered before now out Cut so (sym (append-nil now.buffered)) (cut_wrong now unfinished some))

-- ---- What is no fault of a packet

pub no_packet :
    (turned : Bool) (order : ByteOrder) (part : Part) (found : InspectFault) (text : List ℕ) → ((position : ℕ) (why : CaptureFault) → found ≢ fault.Packet position why)
    → ((number : ℕ) → found ≢ fault.Cut number) → SaysPosition turned order part found text
no_packet turned order part (fault.Packet position why) text never uncut = absurd (never position why refl)
no_packet turned order part fault.Pcapng text never uncut = tt
no_packet turned order part (fault.Line number why) text never uncut = tt
no_packet turned order part (fault.Cut number) text never uncut = absurd (uncut number refl)
no_packet turned order part fault.Memory text never uncut = tt
no_packet turned order part fault.Read text never uncut = tt
no_packet turned order part fault.Write text never uncut = tt
no_packet turned order part fault.Endless text never uncut = tt

pub stops_not :
    (more : List ℕ) (old : Underway) (out : Option (List ℕ)) (found : InspectFault) → ((position : ℕ) (why : CaptureFault) → found ≢ fault.Packet position why)
    → ((number : ℕ) → found ≢ fault.Cut number) → StopsWith more old out found
stops_not more old out found never uncut = λ turned order part text before so. no_packet turned order part found (text ++ more) never uncut

-- ---- What was told, one thing behind another

pub tells_none : (now : Underway) (out : Option (List ℕ)) → TellsOn [] now out now out
tells_none now out = λ turned order part text before so.
    subst (λ (t : List ℕ). PacketsTold turned order part t before now out) (sym (append-nil text)) so

pub tells_both :
    (more : List ℕ) (old : Underway) (out : Option (List ℕ)) (mid : Underway) (between : Option (List ℕ)) (last : List ℕ) (new : Underway) (after : Option (List ℕ))
    → TellsOn more old out mid between → TellsOn last mid between new after → TellsOn (more ++ last) old out new after
tells_both more old out mid between last new after p q = λ turned order part text before so.
    subst (λ (t : List ℕ). PacketsTold turned order part t before new after) (append_assoc text more last)
    (q turned order part (text ++ more) before (p turned order part text before so))

pub tells_two :
    (more : List ℕ) (old : Underway) (out : Option (List ℕ)) (mid : Underway) (between : Option (List ℕ)) (new : Underway) (after : Option (List ℕ))
    → TellsOn more old out mid between → TellsOn [] mid between new after → TellsOn more old out new after
tells_two more old out mid between new after p q =
    subst (λ (t : List ℕ). TellsOn t old out new after) (append-nil more) (tells_both more old out mid between [] new after p q)

pub stops_behind :
    (more : List ℕ) (old : Underway) (out : Option (List ℕ)) (mid : Underway) (between : Option (List ℕ)) (last : List ℕ) (found : InspectFault)
    → TellsOn more old out mid between → StopsWith last mid between found → StopsWith (more ++ last) old out found
stops_behind more old out mid between last found p q = λ turned order part text before so.
    subst (λ (t : List ℕ). SaysPosition turned order part found t) (append_assoc text more last)
    (q turned order part (text ++ more) before (p turned order part text before so))

-- bytes more are held
pub holds :
    (piece : List ℕ) (now new : Underway) (out : Option (List ℕ)) → new.at ≡ now.at → new.parts ≡ now.parts → new.buffered ≡ now.buffered ++ piece → TellsOn piece now out new out
holds piece now new out a p h = λ turned order part text before so. record {
  prefix = so.prefix;
  read = so.read;
  split = ap (λ (xs : List ℕ). xs ++ piece) so.split ∙ append_assoc so.prefix now.buffered piece ∙ ap (λ (xs : List ℕ). so.prefix ++ xs) (sym h);
  captured = subst (λ (at : Reached). Captured turned order part so.prefix at so.read) (sym a) so.captured;
  tells = subst (λ (parts : Parts). Tells nothing_buffered before so.read parts out) (sym p) so.tells;
}

-- ---- A whole capture, in pieces

-- what was read of the rest of a text, and told
pub record PacketsRead (rest : List ℕ) (old : Underway) (out left : Option (List ℕ)) (new : Underway) (after : Option (List ℕ)) : Type 0 where
  pub taken : List ℕ
  pub more : List ℕ
  pub split : rest ≡ taken ++ more
  pub left_is : left ≡ Some more
  pub goes : TellsOn taken old out new after

pub read_none : (rest : List ℕ) (now : Underway) (out left : Option (List ℕ)) → left ≡ Some rest → PacketsRead rest now out left now out
read_none rest now out left e = record { taken = []; more = rest; split = refl; left_is = e; goes = tells_none now out }

-- packets were told, and then a piece was read and held
pub read_piece :
    (rest : List ℕ) (old : Underway) (out left : Option (List ℕ)) (mid : Underway) (between : Option (List ℕ)) (told : Underway) (after : Option (List ℕ)) (piece : List ℕ)
    (now_left : Option (List ℕ)) (inner new : Underway) → PacketsRead rest old out left mid between → TellsOn [] mid between told after → Consumes left now_left piece
    → inner ≡ told → new.at ≡ inner.at → new.parts ≡ inner.parts → new.buffered ≡ inner.buffered ++ piece → PacketsRead rest old out now_left new after
read_piece rest old out left mid between told after piece now_left inner new so on con same a p h =
    let on_inner : TellsOn [] mid between inner after = subst (λ (u : Underway). TellsOn [] mid between u after) (sym same) on in
    let known : Consumes (Some so.more) now_left piece = subst (λ (r : Option (List ℕ)). Consumes r now_left piece) so.left_is con in
    let more : (ys : List ℕ) × (now_left ≡ Some ys) × (so.more ≡ piece ++ ys) = consumed now_left so.more piece known in
    record {
      taken = so.taken ++ piece;
      more = more.0;
      split = so.split ∙ ap (λ (ys : List ℕ). so.taken ++ ys) more.2 ∙ sym (append_assoc so.taken piece more.0);
      left_is = more.1;
      goes = tells_both so.taken old out inner after piece new after (tells_two so.taken old out mid between inner after so.goes on_inner) (holds piece inner new after a p h);
    }

pub read_all_of :
    (rest : List ℕ) (old : Underway) (out left : Option (List ℕ)) (mid : Underway) (between : Option (List ℕ)) (new : Underway) (after now_left : Option (List ℕ))
    → PacketsRead rest old out left mid between → TellsOn [] mid between new after → Consumes left now_left [] → IsAtEnd now_left → TellsOn rest old out new after
read_all_of rest old out left mid between new after now_left so on con at_end =
    let known : Consumes (Some so.more) now_left [] = subst (λ (r : Option (List ℕ)). Consumes r now_left []) so.left_is con in
    let more : (ys : List ℕ) × (now_left ≡ Some ys) × (so.more ≡ [] ++ ys) = consumed now_left so.more [] known in
    let none : IsAtEnd (Some more.0) = subst (λ (r : Option (List ℕ)). IsAtEnd r) more.1 at_end in
    let whole : so.taken ≡ rest = sym (so.split ∙ ap (λ (ys : List ℕ). so.taken ++ ys) (more.2 ∙ none) ∙ append-nil so.taken) in
    subst (λ (t : List ℕ). TellsOn t old out new after) whole (tells_two so.taken old out mid between new after so.goes on)

pub read_wrong_packet :
    (rest : List ℕ) (old : Underway) (out left : Option (List ℕ)) (mid : Underway) (between : Option (List ℕ)) (found : InspectFault)
    → PacketsRead rest old out left mid between → ((more : List ℕ) → StopsWith more mid between found) → StopsWith rest old out found
read_wrong_packet rest old out left mid between found so stop =
    subst (λ (t : List ℕ). StopsWith t old out found) (sym so.split) (stops_behind so.taken old out mid between so.more found so.goes (stop so.more))

-- ---- The beginning and the end

-- no packet is under way, and all was told
pub tells_whole :
    (now : Underway) (out : Option (List ℕ)) (verdict : Verdict) (after : Option (List ℕ)) → now.buffered ≡ [] → Ends now.parts out ways.Both verdict after
    → TellsAllOf [] now out verdict after
tells_whole now out verdict after none ends = λ turned order part text before so.
    let whole : text ++ [] ≡ so.prefix = append-nil text ∙ so.split ∙ ap (λ (xs : List ℕ). so.prefix ++ xs) none ∙ append-nil so.prefix in
    record {
      at = now.at;
      read = so.read;
      captured = subst (λ (t : List ℕ). Captured turned order part t now.at so.read) (sym whole) so.captured;
      explains = record { at_end = now.parts; between = out; tells = so.tells; ends = ends };
    }

pub tells_to_end :
    (rest : List ℕ) (old : Underway) (out : Option (List ℕ)) (mid : Underway) (between : Option (List ℕ)) (verdict : Verdict) (after : Option (List ℕ))
    → TellsOn rest old out mid between → TellsAllOf [] mid between verdict after → TellsAllOf rest old out verdict after
tells_to_end rest old out mid between verdict after p q = λ turned order part text before so.
    subst (λ (t : List ℕ). TellsPcap turned order part t before verdict after) (append-nil (text ++ rest))
    (q turned order part (text ++ rest) before (p turned order part text before so))

pub stops_at_end :
    (rest : List ℕ) (old : Underway) (out : Option (List ℕ)) (mid : Underway) (between : Option (List ℕ)) (found : InspectFault)
    → TellsOn rest old out mid between → StopsWith [] mid between found → StopsWith rest old out found
stops_at_end rest old out mid between found p q =
    subst (λ (t : List ℕ). StopsWith t old out found) (append-nil rest) (stops_behind rest old out mid between [] found p q)

head_is_whole : (prefix text : List ℕ) → prefix ≡ take HEAD text → HEAD ≤ length prefix → length prefix ≡ HEAD
head_is_whole prefix text first there =
    let e : length prefix ≡ min HEAD (length text) = ap (λ (xs : List ℕ). length xs) first ∙ length-take HEAD text in omega (arith, e, there)

-- a capture is written so, and none of its packets was read
pub first_packets :
    (turned : Bool) (order : ByteOrder) (part : Part) (prefix text : List ℕ) (form : Form) (before : Option (List ℕ)) (now : Underway)
    → now ≡ record { at = at_first form turned; buffered = []; parts = nothing_buffered } → prefix ≡ take HEAD text → HEAD ≤ length prefix → form_of order part prefix ≡ Ok form
    → PacketsTold turned order part prefix before now before
first_packets turned order part prefix text form before now is first there ok =
    subst (λ (u : Underway). PacketsTold turned order part prefix before u before) (sym is) (record {
      prefix = prefix;
      read = [];
      split = sym (append-nil prefix);
      captured = begins turned order part prefix form (head_is_whole prefix text first there) ok;
      tells = nothing nothing_buffered before;
    })

-- it ends in its head
pub head_cut : (turned : Bool) (order : ByteOrder) (part : Part) (prefix text : List ℕ) → prefix ≡ take HEAD text → length prefix < HEAD → Stops turned order part text 0 Cut
head_cut turned order part prefix text first short =
    let e : length prefix ≡ min HEAD (length text) = ap (λ (xs : List ℕ). length xs) first ∙ length-take HEAD text in
    at_head turned order part text (omega (arith, e, short))

-- it is of a link that is not read
pub head_wrong :
    (turned : Bool) (order : ByteOrder) (part : Part) (prefix text : List ℕ) (left : Option (List ℕ)) (why : CaptureFault) → Begins prefix text left → HEAD ≤ length prefix
    → form_of order part prefix ≡ Err why → Stops turned order part text 0 why
head_wrong turned order part prefix text left why b there wrong =
    subst (λ (t : List ℕ). Stops turned order part t 0 why) (sym b.split)
    (at_link turned order part prefix b.rest why (head_is_whole prefix text b.first there) wrong)

-- ---- The first bytes of a file

pub one_read :
    (text prefix : List ℕ) (left now_left : Option (List ℕ)) (piece new : List ℕ) → (rest : List ℕ) × (left ≡ Some rest) × (text ≡ prefix ++ rest)
    → Consumes left now_left piece → new ≡ prefix ++ piece → (rest : List ℕ) × (now_left ≡ Some rest) × (text ≡ new ++ rest)
one_read text prefix left now_left piece new so con is =
    let known : Consumes (Some so.0) now_left piece = subst (λ (r : Option (List ℕ)). Consumes r now_left piece) so.1 con in
    let more : (ys : List ℕ) × (now_left ≡ Some ys) × (so.0 ≡ piece ++ ys) = consumed now_left so.0 piece known in
    (more.0, more.1, so.2 ∙ ap (λ (ys : List ℕ). prefix ++ ys) more.2 ∙ sym (append_assoc prefix piece more.0) ∙ ap (λ (xs : List ℕ). xs ++ more.0) (sym is))

prefix_is_first : (prefix rest : List ℕ) → length prefix ≡ HEAD → prefix ≡ take HEAD (prefix ++ rest)
prefix_is_first prefix rest len =
    sym (ap (λ (n : ℕ). take n (prefix ++ rest)) (sym len) ∙ take-append-le (length prefix) prefix rest (omega arith) ∙ take_all (length prefix) prefix (omega arith))

pub begins_first :
    (text prefix : List ℕ) (left : Option (List ℕ)) → (rest : List ℕ) × (left ≡ Some rest) × (text ≡ prefix ++ rest) → length prefix ≡ HEAD → Begins prefix text left
begins_first text prefix left so len = record {
  rest = so.0;
  split = so.2;
  left_is = so.1;
  first = prefix_is_first prefix so.0 len ∙ ap (λ (xs : List ℕ). take HEAD xs) (sym so.2);
}

pub begins_all :
    (text prefix : List ℕ) (left now_left : Option (List ℕ)) → (rest : List ℕ) × (left ≡ Some rest) × (text ≡ prefix ++ rest) → Consumes left now_left []
    → IsAtEnd now_left → length prefix ≤ HEAD → Begins prefix text now_left
begins_all text prefix left now_left so con at_end short =
    let known : Consumes (Some so.0) now_left [] = subst (λ (r : Option (List ℕ)). Consumes r now_left []) so.1 con in
    let more : (ys : List ℕ) × (now_left ≡ Some ys) × (so.0 ≡ [] ++ ys) = consumed now_left so.0 [] known in
    let none : IsAtEnd (Some more.0) = subst (λ (r : Option (List ℕ)). IsAtEnd r) more.1 at_end in
    let whole : text ≡ prefix = so.2 ∙ ap (λ (ys : List ℕ). prefix ++ ys) (more.2 ∙ none) ∙ append-nil prefix in
    record {
      rest = more.0;
      split = so.2 ∙ ap (λ (ys : List ℕ). prefix ++ ys) more.2;
      left_is = more.1;
      first = sym (ap (λ (xs : List ℕ). take HEAD xs) whole ∙ take_all HEAD prefix short);
    }

pub stops_at_end_of :
    (more : List ℕ) (old : Underway) (out : Option (List ℕ)) (mid : Underway) (between : Option (List ℕ)) (found : InspectFault)
    → TellsOn [] old out mid between → StopsWith more mid between found → StopsWith more old out found
stops_at_end_of more old out mid between found p q = stops_behind [] old out mid between more found p q

-- what stands behind so many
pub tail_is : (m : ℕ) (xs : List ℕ) → take (length xs - m) (drop m xs) ≡ drop m xs
tail_is m xs =
    let e : length (drop m xs) ≡ length xs - m = length-drop m xs in take_all (length xs - m) (drop m xs) (omega (arith, e))

-- nothing that a file has is wrong
pub no_fault_of :
    (kind : CaptureKind) (turned : Bool) (found : InspectFault) (text : List ℕ) → ((number : ℕ) (why : RecordFault) → found ≢ fault.Line number why)
    → ((position : ℕ) (why : CaptureFault) → found ≢ fault.Packet position why) → ((number : ℕ) → found ≢ fault.Cut number) → FaultOfKind kind turned found text
no_fault_of (kinds.Pcap order part) turned found text no_line never uncut = no_packet turned order part found text never uncut
no_fault_of kinds.Pcapng turned found text no_line never uncut = tt
no_fault_of kinds.Other turned found text no_line never uncut = λ number why e. absurd (no_line number why e)
