-- What read and tell give of a file whose entry is found (01, Read; Tell).
use Rattle.std.specs.Prelude.{length, leb}
use Rattle.d64spec.specs.Geometry.{Geometry}
use Rattle.d64spec.specs.Lists.{Bytes, splice}
use Rattle.d64spec.specs.Answers.{Address, wrong_buffer, Result, done, ◌>>◌, need}
use Rattle.d64spec.specs.Directory.{entry_byte, name_field, count_of}
use Rattle.d64spec.specs.Reply.{Change}
use Rattle.d64spec.specs.Read.{FileInformation as Information, TellReply}
use Rattle.answers.specs.Faults.{answer_to, verdict_of}
use Rattle.reading.specs.ChainReads.{sectors_from, data_from}
use Rattle.reading.specs.FileSlots.{first_of}
use Rattle.reading.specs.declared.FileInformation.{FileInformation}
use Rattle.reading.specs.declared.Told.{Told}

-- a read of the chain that starts at r: 16 where the output is too short, else its data (01, Read)
unfoldable pub read_from : Geometry → Bytes → Bytes → Address → Result Change
read_from g img out r = do
  need (leb (length (data_from g img r)) (length out)) wrong_buffer
  done (record {
    image_after = img;
    output_after = splice out 0 (data_from g img r);
    reported_length = length (data_from g img r);
    reported_sectors = length (sectors_from g img r);
  })

-- what tell gives of the file of an entry with bytes b (01, Tell)
unfoldable pub told_of : Geometry → Bytes → Bytes → Information
told_of g img b = record {
  type_byte = entry_byte b 0x02;
  name_bytes = name_field b;
  first_track = entry_byte b 0x03;
  first_sector = entry_byte b 0x04;
  sector_count = count_of b;
  byte_length = length (data_from g img (first_of b));
}

-- the information that the code's struct means
abbrev pub information_of : FileInformation → Information
information_of i = record {
  type_byte = i.type_byte;
  name_bytes = i.name;
  first_track = i.track;
  first_sector = i.sector;
  sector_count = i.count;
  byte_length = i.length;
}

-- the reply that the code's answer means
abbrev pub tell_reply_of : Told → TellReply
tell_reply_of t = record { answer = answer_to (verdict_of t.verdict); information = information_of t.information }
