-- Each shaper's order of marks leaves glyphs beside them alone.
use Rattle.std.proofs.Common.{None, Some, refl}
use Rattle.std.specs.List.{Contains}
use Rattle.std.proofs.lemmas.List.Elements.{All-contains_itself}
use Rattle.rustybuzz_shapers.specs.declared.shaper.hb_ot_shaper_t.TheVariants.{Arabic, Hangul, Hebrew, Indic, Khmer, Myanmar, MyanmarZawgyi, Thai, Universal}
use Rattle.shapers_buffer.specs.Glyphs.{Glyphs}
use Rattle.shapers_buffer.specs.Glyph.{clusters}
use Rattle.shapers_clusters.proofs.Halves.{Each}
use Rattle.shapers_normal.proofs.Beside.{each_of}
use Rattle.shapers_normal.proofs.Halves.{apart}
use Rattle.shapers_pipeline.specs.NormalizeLaws.{ShapersOrderAlone}
use Rattle.shapers_pipeline.proofs.ArabicAlone.{arabic_alone, arabic_in_front, arabic_old_clusters, arabic_same_length}
use Rattle.shapers_pipeline.proofs.HebrewAlone.{hebrew_alone, hebrew_in_front, hebrew_old_clusters, hebrew_same_length}

own : (gs : Glyphs) → Each (Contains (clusters gs)) gs
own gs = each_of (Contains (clusters gs)) gs (All-contains_itself (clusters gs))

pub order_alone : ShapersOrderAlone
order_alone None plan font variants tables texts invisible draws = record {
  same_length = λ level s e gs some within. refl;
  old_clusters = λ level s e gs some within. All-contains_itself (clusters gs);
  in_front = λ level s e gs some within. refl;
  alone = λ level s e before gs behind some within x y. refl;
}
order_alone (Some Arabic) plan font variants tables texts invisible draws = record {
  same_length = arabic_same_length;
  old_clusters = arabic_old_clusters;
  in_front = arabic_in_front;
  alone = λ level s e before gs behind some within x y. arabic_alone (Contains (clusters gs)) level s e before gs behind
      some within (own gs) (apart gs before x) (apart gs behind y);
}
order_alone (Some Hangul) plan font variants tables texts invisible draws = record {
  same_length = λ level s e gs some within. refl;
  old_clusters = λ level s e gs some within. All-contains_itself (clusters gs);
  in_front = λ level s e gs some within. refl;
  alone = λ level s e before gs behind some within x y. refl;
}
order_alone (Some Hebrew) plan font variants tables texts invisible draws = record {
  same_length = hebrew_same_length;
  old_clusters = hebrew_old_clusters;
  in_front = hebrew_in_front;
  alone = λ level s e before gs behind some within x y. hebrew_alone (Contains (clusters gs)) level s e before gs behind
      some within (own gs) (apart gs before x) (apart gs behind y);
}
order_alone (Some Indic) plan font variants tables texts invisible draws = record {
  same_length = λ level s e gs some within. refl;
  old_clusters = λ level s e gs some within. All-contains_itself (clusters gs);
  in_front = λ level s e gs some within. refl;
  alone = λ level s e before gs behind some within x y. refl;
}
order_alone (Some Khmer) plan font variants tables texts invisible draws = record {
  same_length = λ level s e gs some within. refl;
  old_clusters = λ level s e gs some within. All-contains_itself (clusters gs);
  in_front = λ level s e gs some within. refl;
  alone = λ level s e before gs behind some within x y. refl;
}
order_alone (Some Myanmar) plan font variants tables texts invisible draws = record {
  same_length = λ level s e gs some within. refl;
  old_clusters = λ level s e gs some within. All-contains_itself (clusters gs);
  in_front = λ level s e gs some within. refl;
  alone = λ level s e before gs behind some within x y. refl;
}
order_alone (Some MyanmarZawgyi) plan font variants tables texts invisible draws = record {
  same_length = λ level s e gs some within. refl;
  old_clusters = λ level s e gs some within. All-contains_itself (clusters gs);
  in_front = λ level s e gs some within. refl;
  alone = λ level s e before gs behind some within x y. refl;
}
order_alone (Some Thai) plan font variants tables texts invisible draws = record {
  same_length = λ level s e gs some within. refl;
  old_clusters = λ level s e gs some within. All-contains_itself (clusters gs);
  in_front = λ level s e gs some within. refl;
  alone = λ level s e before gs behind some within x y. refl;
}
order_alone (Some Universal) plan font variants tables texts invisible draws = record {
  same_length = λ level s e gs some within. refl;
  old_clusters = λ level s e gs some within. All-contains_itself (clusters gs);
  in_front = λ level s e gs some within. refl;
  alone = λ level s e before gs behind some within x y. refl;
}
